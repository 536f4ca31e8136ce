-- Copies stay packed: where nothing is won, where a region is drawn, and where an object is won that goes to its place.
use Rattle.std.proofs.Common.{◌≡◌, ◌<◌, ◌≤◌, ℕ, inl, inr, List, length, take, ap, sym, subst, ◌∙◌, arith}
use Rattle.std.proofs.lemmas.Option.{slice_get_within}
use Rattle.bal_core.specs.declared.event.Decision.{Decision}
use Rattle.bal_core.specs.declared.event.Decision.TheVariants as decision
use Rattle.bal_core.specs.declared.row.Told.{Told}
use Rattle.bal_core.specs.declared.row.Drawn.{Drawn}
use Rattle.bal_layout.specs.Addresses.{offset_of}
use Rattle.bal_core.specs.World.{At, State, World, row_of}
use Rattle.bal_core.specs.Steps.{told, used}
use Rattle.bal_core.specs.Core.{ArePacked, Fits, Wins}
use Rattle.bal_core.proofs.Lists.{Pushed}

-- what is drawn only grows, and so does what is won, at its end
pub fits-on : (w : World) (draws more : List Drawn) (won longer : List Told) (i k a : ℕ) → ((p : ℕ) (d : Drawn) → At draws p d → At more p d)
    → take i longer ≡ take i won → Fits w draws won i k a → Fits w more longer i k a
fits-on w draws more won longer i k a kept taken fits = record {
  place = fits.place;
  drawn = fits.drawn;
  drew = kept fits.place fits.drawn fits.drew;
  region = fits.region;
  age = fits.age;
  offset = subst (λ l. offset_of w.shape a ≡ used w fits.drawn.region l) (sym taken) fits.offset;
  within = fits.within;
}

-- no object is won
pub packed-same : (s t : State) → t.world ≡ s.world → ((m : ℕ) → (row_of t m).won ≡ (row_of s m).won)
    → ((m p : ℕ) (d : Drawn) → At (row_of s m).drawn p d → At (row_of t m).drawn p d) → ArePacked s → ArePacked t
packed-same s t world won drawn packed = record { fits = fits }
  where
    fits : (n i k a : ℕ) → Wins t n i k (decision.Copied a) → Fits t.world (row_of t n).drawn (row_of t n).won i k a
    fits n i k a wins =
        subst (λ w. Fits w (row_of t n).drawn (row_of t n).won i k a) (sym world)
        (fits-on s.world (row_of s n).drawn (row_of t n).drawn (row_of s n).won (row_of t n).won i k a (drawn n) (ap (take i) (won n))
        (packed.fits n i k a (subst (λ l. At l i (told k (decision.Copied a))) (won n) wins)))

-- worker n wins object k, and has a place for it if it is copied
pub record Places (s t : State) (n k : ℕ) (d : Decision) : Type 0 where
  pub world : t.world ≡ s.world
  pub won : Pushed (λ m. (row_of s m).won) (λ m. (row_of t m).won) n (told k d)
  pub drawn : (m : ℕ) → (row_of t m).drawn ≡ (row_of s m).drawn
  pub place : (a : ℕ) → d ≡ decision.Copied a → Fits s.world (row_of s n).drawn (row_of s n).won (length (row_of s n).won) k a

pub packed-more : (s t : State) (n k : ℕ) (d : Decision) → Places s t n k d → ArePacked s → ArePacked t
packed-more s t n k d places packed = record { fits = fits }
  where
    kept : (m p : ℕ) (x : Drawn) → At (row_of s m).drawn p x → At (row_of t m).drawn p x
    kept m p x at = subst (λ l. At l p x) (sym (places.drawn m)) at

    on : (m i j a : ℕ) → i ≤ length (row_of s m).won → Fits s.world (row_of s m).drawn (row_of s m).won i j a
        → Fits t.world (row_of t m).drawn (row_of t m).won i j a
    on m i j a most fits =
        subst (λ w. Fits w (row_of t m).drawn (row_of t m).won i j a) (sym places.world)
        (fits-on s.world (row_of s m).drawn (row_of t m).drawn (row_of s m).won (row_of t m).won i j a (kept m) (places.won.taken m i most) fits)

    fits : (m i j a : ℕ) → Wins t m i j (decision.Copied a) → Fits t.world (row_of t m).drawn (row_of t m).won i j a
    fits m i j a wins = elim (places.won.cases m i (told j (decision.Copied a)) wins) [
      | inl before ↦
          on m i j a (let less : i < length (row_of s m).won = slice_get_within (row_of s m).won i (told j (decision.Copied a)) before in omega (arith, less))
          (packed.fits m i j a before)
      | inr here ↦
          let whole : i ≡ length (row_of s m).won = here.1 ∙ ap (λ o. length (row_of s o).won) (sym here.0) in
          on m i j a (omega (arith, whole))
          (subst (λ o. Fits s.world (row_of s o).drawn (row_of s o).won i j a) (sym here.0)
          (subst (λ q. Fits s.world (row_of s n).drawn (row_of s n).won q j a) (sym here.1)
          (subst (λ o. Fits s.world (row_of s n).drawn (row_of s n).won (length (row_of s n).won) o a) (ap (λ (x : Told). x.object) (sym here.2))
          (places.place a (sym (ap (λ (x : Told). x.decision) here.2))))))
    ]
