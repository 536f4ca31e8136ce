-- What a compaction begins with.
use Rattle.std.proofs.Common.{◌≡◌, ℕ, suc, ◌-◌, List, [], ◌∷◌, length, Option, Some, None, refl, ap, ◌∙◌, arith}
use Rattle.std.specs.Prelude.{All, slice_get}
use Rattle.std.specs.Option.{option_map}
use Rattle.bal_layout.specs.Graph.{Graph}
use Rattle.bal_model.specs.declared.event.Packed.{Packed}
use Rattle.bal_rules.specs.GlobalEvents.{last_packed}
use Rattle.bal_words.specs.Paths.{words_in}
use Rattle.bal_words.specs.Shown.{Finds, Shows}
use Rattle.bal_words.specs.Things.{Thing, Things}

-- each reference of each object leads to an object
pub found-words : (things : Things) (g : Graph) → Shows things g → (a : ℕ) → All (Finds things) (words_in (things a))
found-words things g shows a = by (things a) refl
  where
    by : (o : Option Thing) → things a ≡ o → All (Finds things) (words_in o)
    by None is = λ k d less. absurd (omega (arith, less))
    by (Some x) is = shows.found a x is

-- the last of a list
pub last-is : (ks : List Packed) → option_map (λ (k : Packed). k.region) (slice_get ks (length ks - 1)) ≡ last_packed ks
last-is [] = refl
last-is (k ∷ []) = refl
last-is (k ∷ l ∷ ks) =
    let more : length (k ∷ l ∷ ks) - 1 ≡ suc (length ks) = omega arith in
    let fewer : length ks ≡ length (l ∷ ks) - 1 = omega arith in
    ap (λ n. option_map (λ (m : Packed). m.region) (slice_get (k ∷ l ∷ ks) n)) more
    ∙ (ap (λ n. option_map (λ (m : Packed). m.region) (slice_get (l ∷ ks) n)) fewer ∙ last-is (l ∷ ks))
