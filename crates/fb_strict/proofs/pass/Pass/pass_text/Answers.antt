use Rattle.std.proofs.Common.{◌≡◌, ◌+◌, None, inl, refl, ap, ◌∙◌}
use Rattle.fb_bytes.specs.Word.{Lent, word}
use Rattle.fb_rules.specs.Places.{target}
use Rattle.fb_strict.specs.{Strict.text_at, InOrder.text_reads}
use Rattle.fb_strict.proofs.Answered.{all_read, text_told, text_whole, text_wrong}
use Rattle.fb_strict.proofs.pass.Pass.pass_text.Goals as goal
use Rattle.fb_strict.proofs.pass.Pass.pass_text.Goals.{After-answer}

-- where the text stands, and what was read of it

text_stands : (g : _) (c : After-answer g) → c.args.place + c.from.result ≡ target c.args.reads.now.bytes c.args.place
text_stands g c = ap (λ n. c.args.place + n) (c.from.ensures ∙ c.u32_at.ensures.number)

same_bytes : (g : _) (c : After-answer g) → c.u32_at.new.self.bytes ≡ c.args.reads.now.bytes
same_bytes g c = ap (λ (x : Lent). x.bytes) c.u32_at.ensures.counted

text_is : (g : _) (c : After-answer g) → c.read_text-text.result.now ≡ text_at c.args.reads.now.bytes (c.args.place + c.from.result)
text_is g c = c.read_text-text.ensures.text ∙ ap (λ b. text_at b (c.args.place + c.from.result)) (same_bytes g c)

read_is : (g : _) (c : After-answer g) → c.read_text-text.new.reads ≡ record c.args.reads.now { count = c.args.reads.now.count + text_reads c.args.reads.now.bytes (target c.args.reads.now.bytes c.args.place) }
read_is g c =
    let m = c.args.reads.now in
    let size = ap (λ b. word b (c.args.place + c.from.result) 4) (same_bytes g c) in
    all_read c.args.self.now m c.args.site c.args.place (c.args.place + c.from.result) (word c.u32_at.new.self.bytes (c.args.place + c.from.result) 4) (text_stands g c) size
    c.u32_at.new.self c.read_text-text.new.reads c.u32_at.ensures.counted c.read_text-text.ensures.counted

-- src/uoffsets.rt
pub returns-in-Err : goal.returns-in-Err
returns-in-Err g c =
    let a = (goal.at.returns-in-Err g c).After-answer in
    let m = c.args.reads.now in
    let at = c.args.place + c.from.result in
    let told = text_told c.args.self.now m c.args.site c.args.place at _ (text_stands g a) refl c.read_text-text.new.reads (read_is g a) c.read_text-text.result.now (text_is g a) in
    inl (c.in-Err.ensures m None _ told).err

pub returns-in_default-wrong_from : goal.returns-in_default-wrong_from
returns-in_default-wrong_from g c =
    let a = (goal.at.returns-in_default-wrong_from g c).After-answer in
    let m = c.args.reads.now in
    let at = c.args.place + c.from.result in
    let told = text_told c.args.self.now m c.args.site c.args.place at _ (text_stands g a) refl c.read_text-text.new.reads (read_is g a) c.read_text-text.result.now (text_is g a) in
    text_whole c.args.self.now m c.args.site c.args.place at _ (text_stands g a) refl c.read_text-text.new.reads (read_is g a) c.read_text-text.result.now (text_is g a) (c.in_default.ensures m None _ told).reads (c.wrong_from.ensures.whole c.in_default-wrong_from.is)

pub returns : goal.returns
returns g c =
    let a = (goal.at.returns g c).After-answer in
    let m = c.args.reads.now in
    let at = c.args.place + c.from.result in
    let told = text_told c.args.self.now m c.args.site c.args.place at _ (text_stands g a) refl c.read_text-text.new.reads (read_is g a) c.read_text-text.result.now (text_is g a) in
    text_wrong c.args.self.now m c.args.site c.args.place at _ (text_stands g a) refl c.read_text-text.new.reads (read_is g a) c.read_text-text.result.now (text_is g a) (c.in_default.ensures m None _ told).reads c.in-Some.ensures.wrong c.in-Some.front c.in-Some.ensures.front
