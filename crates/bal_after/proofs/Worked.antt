-- The small evacuation and its board are all that the laws ask for.
use Rattle.std.proofs.Common.{◌≡◌, ℕ, zero, suc, false, IsTrue, [], ◌∷◌, refl, ap, subst}
use Rattle.std.specs.Prelude.{nat_eq}
use Rattle.std.specs.List.{IsDistinct}
use Rattle.std.proofs.lemmas.Bool.{false≢true}
use Rattle.std.proofs.lemmas.List.Elements.{All-contains, All-from_recursion}
use Rattle.std.proofs.lemmas.Option.{none-some, same_Some}
use Rattle.bal_layout.specs.Regions.{is_free, is_in, region_at}
use Rattle.bal_core.specs.Steps.{told}
use Rattle.bal_core.specs.Finished.{Survives}
use Rattle.bal_core.specs.declared.event.Decision.TheVariants as decision
use Rattle.bal_core.specs.declared.row.Told.{Told}
use Rattle.bal_model.specs.Ascending.{IsAscending}
use Rattle.bal_rules.proofs.Lemmas.{each-in}
use Rattle.bal_rules.specs.Board.{Placed, names_placed}
use Rattle.bal_rules.specs.PartialEvents.{is_marked}
use Rattle.bal_told.specs.Telling.{how_of}
use Rattle.bal_told.specs.Worked.{copied_and_marked, one_eden, second, two_objects}
use Rattle.bal_after.specs.Asked.{AreInUse, AreMarkedIn, HasNoLeaves, IsMarkedIn}

pub ascending : IsAscending (names_placed one_eden.present)
ascending = (refl, tt)

pub no-leaves : HasNoLeaves one_eden
no-leaves p here =
    All-contains (λ (q : Placed). q.leaves ≡ []) one_eden.present p
    (All-from_recursion (λ (q : Placed). q.leaves ≡ []) one_eden.present (refl, (refl, tt))) here

pub in-use : AreInUse one_eden (0 ∷ [])
in-use q chosen = each-in (λ (r : ℕ). is_free (region_at one_eden.regions r).role ≡ false) (0 ∷ []) q (refl, tt) chosen

second-marked : IsMarkedIn one_eden copied_and_marked 0 1
second-marked = record {
  worker = 0;
  order = 1;
  marked = refl;
  name = second;
  named = refl;
  placed = record { name = second; region = 0; leaves = [] };
  present = refl;
  lies = refl;
}

marked-is : (n i k : ℕ) → Survives copied_and_marked n i k decision.Marked → 1 ≡ k
marked-is zero zero k at =
    absurd (false≢true (ap (λ (t : Told). is_marked (how_of two_objects.shape t.decision))
    (same_Some (told 0 (decision.Copied 256)) (told k decision.Marked) at)))
marked-is zero (suc zero) k at = ap (λ (t : Told). t.object) (same_Some (told 1 decision.Marked) (told k decision.Marked) at)
marked-is zero (suc (suc i)) k at = absurd (none-some (told k decision.Marked) at)
marked-is (suc n) i k at = absurd (none-some (told k decision.Marked) at)

alone : IsDistinct nat_eq (1 ∷ [])
unfolding IsDistinct
alone = (tt, tt)

pub marked : AreMarkedIn one_eden copied_and_marked 0 (1 ∷ [])
marked = record {
  once = alone;
  marked = λ k here. each-in (IsMarkedIn one_eden copied_and_marked 0) (1 ∷ []) k (second-marked, tt) here;
  all = λ k m. subst (λ (j : ℕ). IsTrue (is_in j (1 ∷ []))) (marked-is m.worker m.order k m.marked) refl;
}
