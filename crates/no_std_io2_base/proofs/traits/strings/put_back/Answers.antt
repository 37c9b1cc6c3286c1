-- What became of the line in each of the three cases, for every length and capacity.
use Rattle.std.proofs.{lemmas.Grind.{common_steps}, Common.{◌≡◌, ℕ, ◌-◌, List, refl, sym, ap, subst, ◌∙◌, take, drop, length, arith}}
use Rattle.std.proofs.{Common.{take_all, length-drop, IsUtf8}, lemmas.{Str.{IsUtf8-append}, List.{take-append-drop}}}
use Rattle.no_std_io2_base.proofs.LineLemmas.{line_kept, became, line_refused}
use Rattle.no_std_io2_base.proofs.traits.strings.put_back.Goals as goal

-- the bytes from a place on, as a slice has them
behind : (n : ℕ) (bytes lent : List ℕ) → lent ≡ bytes → take (length lent - n) (drop n lent) ≡ drop n bytes
behind n bytes lent same = take_all (length lent - n) (drop n lent) (omega (arith, length-drop n lent)) ∙ ap (λ l. drop n l) same

pub from_utf8_unchecked-requires : goal.from_utf8_unchecked-requires
from_utf8_unchecked-requires c =
    let same : c.deref.result.now ≡ c.args.bytes.items = grind (arith, common_steps) in
    subst IsUtf8 (take-append-drop c.args.start c.args.bytes.items) (IsUtf8-append _ _ c.requires.text
    (subst IsUtf8 (behind c.args.start c.args.bytes.items _ same) (c.is_text.ensures.yes c.if-is_text.true)))

pub returns-then-is_out_of_memory-clause-answers : goal.returns-then-is_out_of_memory-clause-answers
returns-then-is_out_of_memory-clause-answers c = line_kept _ c.args.read _
    (c.is_out_of_memory.ensures.memory c.if-is_out_of_memory.true) refl c.text_front.ensures.bytes

pub returns-then-is_text-clause-answers : goal.returns-then-is_text-clause-answers
returns-then-is_text-clause-answers c =
    let same : c.deref.result.now ≡ c.args.bytes.items = grind (arith, common_steps) in
    let text = subst IsUtf8 (behind c.args.start c.args.bytes.items _ same) (c.is_text.ensures.yes c.if-is_text.true) in
    became (drop c.args.start c.args.bytes.items) c.args.read (take c.args.start c.args.bytes.items) text
    (ap (λ v. v.items) c.from_utf8_unchecked.ensures.value ∙ sym (take-append-drop c.args.start c.args.bytes.items))
    (c.is_out_of_memory.ensures.other c.if-is_out_of_memory.false)

pub returns-clause-answers : goal.returns-clause-answers
returns-clause-answers c =
    let same : c.deref.result.now ≡ c.args.bytes.items = grind (arith, common_steps) in
    let line = drop c.args.start c.args.bytes.items in
    rw c.and.ensures (line_refused line c.args.read _
    (λ text. c.is_text.ensures.no c.if-is_text.false (subst IsUtf8 (sym (behind c.args.start c.args.bytes.items _ same)) text))
    c.invalid_text.ensures (c.is_out_of_memory.ensures.other c.if-is_out_of_memory.false) c.text_front-2.ensures.bytes)
