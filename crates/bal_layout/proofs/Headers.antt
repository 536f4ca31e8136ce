-- What a header's two words are taken apart into, and put together from.
use Rattle.std.proofs.Common.{◌≡◌, ℕ, ◌+◌, ◌*◌, ◌%◌, ◌^◌, ◌<◌, ◌≤◌, Bool, true, false, cond, eqb, Some, None, refl, sym, arith}
use Rattle.std.proofs.lemmas.Grind.{common_steps}
use Rattle.std.proofs.lemmas.Bool.{eqb-true}
use Rattle.std.proofs.lemmas.Option.{none-some}
use Rattle.bal_layout.specs.declared.header.Header.{Header}
use Rattle.bal_layout.specs.declared.name.Kind.{Kind}
use Rattle.bal_layout.specs.declared.name.Kind.TheVariants.{Plain, Array, Spine}
use Rattle.bal_layout.specs.Header.{MayHaveValues, IsHeader, IsHeaderOf, kind_number, kind_of_number, header_by, header_of, first_word, second_word}

-- a header with these words is what they are taken apart into
pub header-of_words : (h : Header) → IsHeader h → header_of (first_word h) (second_word h) ≡ Some h
unfolding header_of
header-of_words h limits = by h.kind h.refs h.values h.name.thread h.name.ordinal limits.refs limits.values limits.thread limits.first_ordinal limits.last_ordinal
  where
    by : (kind : Kind) (refs values thread ordinal : ℕ) → refs < 2 ^ 24 → MayHaveValues kind values → thread < 32 → 1 ≤ ordinal → ordinal < 2 ^ 32
        → header_by (kind_number kind + 256 * refs + 2 ^ 32 * values) (2 ^ 32 * thread + ordinal) (kind_of_number ((kind_number kind + 256 * refs + 2 ^ 32 * values) % 256))
        ≡ Some (record { kind = kind; refs = refs; values = values; name = record { thread = thread; ordinal = ordinal } })
    by Plain refs values thread ordinal r v t o o' = grind (arith, common_steps)
    by Array refs values thread ordinal r v t o o' = grind (arith, common_steps)
    by Spine refs values thread ordinal r v t o o' = grind (arith, common_steps)

-- what two words are taken apart into is put together from them again
pub words-of_header : (h : Header) (first second : ℕ) → header_of first second ≡ Some h → IsHeaderOf h first second
unfolding header_of
words-of_header h first second is = by (eqb (first % 256) 1) (eqb (first % 256) 2) (eqb (first % 256) 3) refl refl refl is
  where
    of_kind : (kind : Kind) → kind_number kind ≡ first % 256 → header_by first second (Some kind) ≡ Some h → IsHeaderOf h first second
    of_kind Plain e is = grind (arith, common_steps)
    of_kind Array e is = grind (arith, common_steps)
    of_kind Spine e is = grind (arith, common_steps)

    by : (one two three : Bool) → eqb (first % 256) 1 ≡ one → eqb (first % 256) 2 ≡ two → eqb (first % 256) 3 ≡ three
        → header_by first second (cond one (Some Plain) (cond two (Some Array) (cond three (Some Spine) None))) ≡ Some h → IsHeaderOf h first second
    by true _ _ a _ _ is = of_kind Plain (sym (eqb-true _ _ a)) is
    by false true _ _ b _ is = of_kind Array (sym (eqb-true _ _ b)) is
    by false false true _ _ c is = of_kind Spine (sym (eqb-true _ _ c)) is
    by false false false _ _ _ is = absurd (none-some h is)
