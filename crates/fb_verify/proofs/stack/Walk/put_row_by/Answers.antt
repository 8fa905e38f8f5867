use Rattle.std.proofs.Common.{◌≡◌, ℕ, arith}
use Rattle.fb_schema.specs.declared.kinds.Kind.{Kind, TheVariants.Union, TheVariants.Texts, TheVariants.Tables, TheVariants.Unions}
use Rattle.fb_verify.specs.Turns.{IsFar}
use Rattle.fb_rules.proofs.Words.{vector_left}
use Rattle.fb_verify.proofs.stack.Walk.put_row_by.Goals as goal

pub returns-in-Unions-clause-leads : goal.returns-in-Unions-clause-leads
returns-in-Unions-clause-leads c =
    let e = c.put_unions.ensures in
    let holds = rw c.in-Unions.is at c.requires.may.askable.holds in
    λ ok. rw c.in-Unions.is (vector_left c.args.reads.now.bytes c.args.self.now.schema.now (e.words ok) c.requires.may.rests (holds, e.types ok, e.types_near ok))

pub returns-in-Tables-clause-leads : goal.returns-in-Tables-clause-leads
returns-in-Tables-clause-leads c =
    let holds = rw c.in-Tables.is at c.requires.may.askable.holds in
    λ ok. rw c.in-Tables.is (vector_left c.args.reads.now.bytes c.args.self.now.schema.now (c.put_words.ensures.words ok) c.requires.may.rests holds)

-- what is none of the others is a vector of strings
texts : (kind : Kind) → IsFar kind → ((x : ℕ) → kind ≡ Union x → ⊥) → ((x : ℕ) → kind ≡ Tables x → ⊥) → ((x : ℕ) → kind ≡ Unions x → ⊥) → kind ≡ Texts
texts kind far a b c = grind arith

pub returns-in_default : goal.returns-in_default
returns-in_default c =
    let e = c.put_words-in_default.ensures in
    let d = c.in_default in
    let is = texts (c.args.field.now).kind c.requires.far d.not-Union d.not-Tables d.not-Unions in
    record {
      tested = rw (is, ← c.requires.same) e.tested;
      leads = λ ok. rw is (vector_left c.args.reads.now.bytes c.args.self.now.schema.now (e.words ok) c.requires.may.rests tt);
    }
