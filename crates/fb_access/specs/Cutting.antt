-- A path's text, cut into its parts.
use Rattle.std.specs.Prelude.{◌≡◌, ℕ, ◌+◌, ◌-◌, ◌*◌, ◌==◌, ◌&&◌, not, nat_le, IsTrue, false, if◌then◌else◌, List, [], ◌∷◌, ◌++◌, Option, Some, None}
use Rattle.std.specs.{Borrow.Bor, List.AllByRecursion}
use Rattle.fb_access.specs.declared.pieces.{Piece.Piece, Piece.TheVariants.Field, Piece.TheVariants.Element, Piece.TheVariants.Member, Next.Next, Next.TheVariants.Part as APart}
use Rattle.fb_access.specs.{declared.pieces.Next.TheVariants.End, declared.pieces.Next.TheVariants.Wrong, Grammar.Part, Grammar.field, Grammar.element, Grammar.member}
use Rattle.fb_access.specs.Grammar.{is_digit, begins_name, goes_on, number_of, IsName, IsNumber, IsPart, spelling}

-- letters, digits and `_`
abbrev pub GoOn : List ℕ → Type 0
GoOn cs = AllByRecursion (λ x. IsTrue (goes_on x)) cs

-- no word goes on with this text
abbrev pub Stops : List ℕ → Type 0
Stops [] = Unit {0}
Stops (c ∷ cs) = goes_on c ≡ false

-- the text begins with this word
pub record IsWord (text word rest : List ℕ) : Type 0 where
  pub whole : text ≡ word ++ rest
  pub go_on : GoOn word
  pub stops : Stops rest

-- a name is its first word
pub record IsNamed (text name rest : List ℕ) : Type 0 where
  pub is_name : IsName name
  pub word : IsWord text name rest

-- no name begins the text
abbrev pub HasNoName : List ℕ → Type 0
HasNoName [] = Unit {0}
HasNoName (c ∷ cs) = begins_name c ≡ false

-- the number of 32 bits of the digits so far, if there are any, and one more, of which the first is 0 only alone
unfoldable pub next_digit : Option ℕ → ℕ → Option ℕ
next_digit None c = if is_digit c then Some (c - 48) else None
next_digit (Some v) c = if is_digit c && not (v == 0) && nat_le (10 * v + (c - 48)) 4294967295 then Some (10 * v + (c - 48)) else None

-- digits begin the text, and a bracket closes their number
pub record IsNumbered (text : List ℕ) (number : ℕ) (rest : List ℕ) : Type 0 where
  pub digits : List ℕ
  pub is_number : IsNumber digits
  pub value : number ≡ number_of digits
  pub whole : text ≡ digits ++ 93 ∷ rest

-- a part as it is written, and the text after it
abbrev pub written : Part → List ℕ → List ℕ
written (field name) rest = 46 ∷ name ++ rest
written (element digits) rest = 91 ∷ digits ++ 93 ∷ rest
written (member name) rest = 64 ∷ name ++ rest

-- a name ends where no word goes on
abbrev pub Ends : Part → List ℕ → Type 0
Ends (element digits) rest = Unit {0}
Ends part rest = Stops rest

-- the text begins with this part
pub record BeginsWith (part : Part) (text rest : List ℕ) : Type 0 where
  pub is_part : IsPart part
  pub whole : text ≡ written part rest
  pub ends : Ends part rest

-- the piece is what this part says
abbrev pub IsPieceOf : Part → Piece → Type 0
IsPieceOf (field name) (Field text) = text.now ≡ name
IsPieceOf (element digits) (Element n) = n ≡ number_of digits
IsPieceOf (member name) (Member text) = text.now ≡ name
IsPieceOf _ _ = ⊥

-- the text is these parts
pub record Spells (text : List ℕ) (parts : List Part) : Type 0 where
  pub are_parts : AllByRecursion IsPart parts
  pub spelled : text ≡ spelling parts

-- a text begins with the same byte, or is as empty
abbrev pub BeginsLike : List ℕ → List ℕ → Type 0
BeginsLike [] t = t ≡ []
BeginsLike (c ∷ cs) [] = ⊥
BeginsLike (c ∷ cs) (d ∷ ds) = c ≡ d

-- parts go on up to the bad bytes, and none with what begins like them
pub record IsStuck (text bad : List ℕ) : Type 0 where
  pub good : List ℕ
  pub whole : text ≡ good ++ bad
  pub more : List ℕ
  pub parts : List Part
  pub goes_on : Spells (good ++ more) parts
  pub stuck : (t : List ℕ) (ps : List Part) → BeginsLike bad t → Spells (good ++ t) ps → ⊥

-- what the text begins with
pub record IsCut (text : List ℕ) (piece : Piece) (rest : List ℕ) : Type 0 where
  pub part : Part
  pub begins : BeginsWith part text rest
  pub says : IsPieceOf part piece

abbrev pub IsNext : List ℕ → Next → Type 0
IsNext text (APart piece rest) = IsCut text piece rest.now
IsNext text End = text ≡ []
IsNext text (Wrong bad) = IsStuck text bad.now

-- parts up to the end, or up to bytes of which none goes on
abbrev pub IsRead : List ℕ → Option (Bor (List ℕ)) → Type 0
IsRead text None = (parts : List Part) × Spells text parts
IsRead text (Some bad) = IsStuck text bad.now
