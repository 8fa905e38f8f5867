-- What the uoffsets of a field that is asked lead to, as the pass has it, is what they lead to.
use Rattle.std.proofs.Common.{◌≡◌, ◌⊎◌, inl, inr, ℕ, zero, suc, ◌+◌, IsTrue, List, [], ◌∷◌, Option, Some, None, Bool, true, false, refl, sym, ap, ◌∙◌, if◌then◌else◌}
use Rattle.fb_bytes.specs.Word.{word}
use Rattle.fb_schema.specs.declared.kinds.Kind.{Kind, TheVariants.Scalar, TheVariants.Text, TheVariants.Struct, TheVariants.Table, TheVariants.Union, TheVariants.Scalars}
use Rattle.fb_schema.specs.declared.kinds.Kind.TheVariants.{Texts, Structs, Tables, Unions}
use Rattle.fb_schema.specs.{Rows.Rows, Rows.is_table, Live.Live, Members.member_of, Served.MemberHolds}
use Rattle.fb_rules.specs.declared.offset_row.{Leads.Leads, Leads.TheVariants.All, Leads.TheVariants.ByType, Referent.Referent, Referent.TheVariants.Text as AText}
use Rattle.fb_rules.specs.declared.offset_row.Referent.TheVariants.{Table as ATable, Struct as AStruct, Nothing}
use Rattle.fb_rules.specs.{OffsetRows.leads_after, Fields.Lead, Fields.to_table, Fields.to_string, Fields.to_nothing, Fields.lead_of, Fields.Entry, Fields.row, Fields.union_row}
use Rattle.fb_rules.specs.Fields.{union_entry, entries_of, entries_at, type_place, union_type}
use Rattle.fb_strict.specs.{Skipped.Wants, Skipped.is_kind_asked, Asked.asked_referent, Asked.row_leads, Asked.row_place, Asked.first_referent}

module _ (w : Wants) where
  -- a uoffset that leads there leads to this, if that is asked
  pub record IsAnswered (referent : Referent) (lead : Lead) : Type 0 where
    pub text : referent ≡ AText → (lead ≡ to_string) × (w.demands.utf8 ≡ true)
    pub whole : w.demands.utf8 ≡ true → lead ≡ to_string → referent ≡ AText
    pub table : (j : ℕ) → referent ≡ ATable j → (lead ≡ to_table j) × (w.asks j ≡ true)
    pub quiet : (j : ℕ) → lead ≡ to_table j → (referent ≡ ATable j) ⊎ (w.asks j ≡ false)
    pub no_struct : (size align : ℕ) → referent ≡ AStruct size align → ⊥

  pub a_text : w.demands.utf8 ≡ true → IsAnswered AText to_string
  a_text on = record { text = λ e. (refl, on); whole = λ o e. refl; table = λ j e. absurd (cc); quiet = λ j e. absurd (cc); no_struct = λ size align e. absurd (cc) }

  pub a_table : (j : ℕ) → w.asks j ≡ true → IsAnswered (ATable j) (to_table j)
  a_table j asks = record {
    text = λ e. absurd (cc);
    whole = λ o e. absurd (cc);
    table = λ i e. (let same : j ≡ i = cc in (ap to_table same, ap w.asks (sym same) ∙ asks));
    quiet = λ i e. (let same : j ≡ i = cc in inl (ap ATable same));
    no_struct = λ size align e. absurd (cc);
  }

  -- one that leads to what isn't asked
  pub unasked : (lead : Lead) → (w.demands.utf8 ≡ true → lead ≡ to_string → ⊥) → ((j : ℕ) → lead ≡ to_table j → w.asks j ≡ false) → IsAnswered Nothing lead
  unasked lead no_text quiet = record {
    text = λ e. absurd (cc);
    whole = λ on e. absurd (no_text on e);
    table = λ j e. absurd (cc);
    quiet = λ j e. inr (quiet j e);
    no_struct = λ size align e. absurd (cc);
  }

  text_by : (x : Bool) → w.demands.utf8 ≡ x → IsAnswered (if x then AText else Nothing) to_string
  text_by true is = a_text is
  text_by false is = unasked to_string (λ on e. let z : false ≡ true = sym is ∙ on in cc) (λ j e. absurd (cc))

  table_by : (k : ℕ) (x : Bool) → w.asks k ≡ x → IsAnswered (if x then ATable k else Nothing) (to_table k)
  table_by k true is = a_table k is
  table_by k false is = unasked (to_table k) (λ on e. cc) (λ j e. let same : k ≡ j = cc in ap w.asks (sym same) ∙ is)

  module _ (S : Rows) where
    pub answered_member : (o : Option Kind) → IsAnswered (asked_referent w o) (lead_of S o)
    answered_member (Some Text) = text_by w.demands.utf8 refl
    answered_member (Some (Table k)) = table_by k (w.asks k) refl
    answered_member None = unasked to_nothing (λ on e. cc) (λ j e. absurd (cc))
    answered_member (Some (Scalar s)) = unasked to_nothing (λ on e. cc) (λ j e. absurd (cc))
    answered_member (Some (Struct k)) = unasked (lead_of S (Some (Struct k))) (λ on e. cc) (λ j e. absurd (cc))
    answered_member (Some (Union e)) = unasked to_nothing (λ on e. cc) (λ j e. absurd (cc))
    answered_member (Some (Scalars s)) = unasked to_nothing (λ on e. cc) (λ j e. absurd (cc))
    answered_member (Some Texts) = unasked to_nothing (λ on e. cc) (λ j e. absurd (cc))
    answered_member (Some (Structs k)) = unasked to_nothing (λ on e. cc) (λ j e. absurd (cc))
    answered_member (Some (Tables k)) = unasked to_nothing (λ on e. cc) (λ j e. absurd (cc))
    answered_member (Some (Unions e)) = unasked to_nothing (λ on e. cc) (λ j e. absurd (cc))

    -- a member that leads to a table is one
    pub member_table : (o : Option Kind) (j : ℕ) → MemberHolds S o → lead_of S o ≡ to_table j → IsTrue (is_table S j)
    member_table (Some (Table k)) j h e = let same : k ≡ j = cc in rw same at h
    member_table None j h e = absurd (cc)
    member_table (Some (Scalar s)) j h e = absurd (cc)
    member_table (Some Text) j h e = absurd (cc)
    member_table (Some (Struct k)) j h e = absurd (cc)
    member_table (Some (Union e')) j h e = absurd (cc)
    member_table (Some (Scalars s)) j h e = absurd (cc)
    member_table (Some Texts) j h e = absurd (cc)
    member_table (Some (Structs k)) j h e = absurd (cc)
    member_table (Some (Tables k)) j h e = absurd (cc)
    member_table (Some (Unions e')) j h e = absurd (cc)

    module _ (b : List ℕ) where
      -- these uoffsets stand one behind the other from p on, and lead there
      unfoldable pub IsRowOf : Leads → ℕ → List Entry → Type 0
      IsRowOf leads p [] = Unit {0}
      IsRowOf leads p (x ∷ xs) = (x.place ≡ p) × IsAnswered (first_referent w b S leads) x.lead × IsRowOf (leads_after leads) (p + 4) xs

      row_is : (referent : Referent) (lead : Lead) (p n : ℕ) → IsAnswered referent lead → IsRowOf (All referent) p (row lead p n)
      unfolding row IsRowOf
      row_is referent lead p zero h = tt
      row_is referent lead p (suc n) h = (refl, h, row_is referent lead (p + 4) n h)

      union_row_is : (e q p n : ℕ) → IsRowOf (ByType e q) p (union_row b S e q p n)
      unfolding union_row IsRowOf
      union_row_is e q p zero = tt
      union_row_is e q p (suc n) = (refl, answered_member (member_of S e (word b q 1)), union_row_is e (q + 1) (p + 4) n)

      union_is : (p : ℕ) (o : Option Kind) → IsRowOf (All (asked_referent w o)) p (union_entry S p o)
      unfolding IsRowOf
      union_is p None = tt
      union_is p (Some kind) = (refl, answered_member (Some kind), tt)

      row_of : (t : ℕ) (f : Live) (p : ℕ) (kind : Kind) → is_kind_asked w S kind ≡ true → IsRowOf (row_leads w b S (type_place b t f.slot) kind) (row_place b (Some p) kind) (entries_of b S t f p kind)
      unfolding IsRowOf
      row_of t f p Text h = (refl, a_text h, tt)
      row_of t f p (Table k) h = (refl, a_table k h, tt)
      row_of t f p (Union e) h = union_is p (member_of S e (union_type b (type_place b t f.slot)))
      row_of t f p Texts h = row_is AText to_string _ _ (a_text h)
      row_of t f p (Tables k) h = row_is (ATable k) (to_table k) _ _ (a_table k h)
      row_of t f p (Unions e) h = union_row_is e _ _ _
      row_of t f p (Scalar s) h = tt
      row_of t f p (Struct k) h = tt
      row_of t f p (Scalars s) h = tt
      row_of t f p (Structs k) h = tt

      pub row_at : (t : ℕ) (f : Live) (place : Option ℕ) → is_kind_asked w S f.kind ≡ true → IsRowOf (row_leads w b S (type_place b t f.slot) f.kind) (row_place b place f.kind) (entries_at b S t f place)
      unfolding IsRowOf
      row_at t f None h = tt
      row_at t f (Some p) h = row_of t f p f.kind h
