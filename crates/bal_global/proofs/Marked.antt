-- What a marker comes to from the roots: what it marked refers only to what it marked, and so do the roots.
use Rattle.std.proofs.Common.{◌≡◌, ℕ, zero, suc, ◌↔◌, IsTrue, true, List, [], ◌∷◌, get_or, subst, sym}
use Rattle.std.specs.Prelude.{All}
use Rattle.bal_layout.specs.Regions.{is_in}
use Rattle.bal_words.specs.Moved.{Closed, LeadsToKept}
use Rattle.bal_words.specs.Paths.{EndsPath, words_in}
use Rattle.bal_words.specs.Things.{Things}
use Rattle.bal_global.proofs.Numbers.{in-get}

-- words lead to what is kept, if that holds of each that is not null
all-lead : (keeps : List ℕ) (words : List ℕ) → ((b : ℕ) → IsTrue (is_in (suc b) words) → IsTrue (is_in b keeps)) → All (LeadsToKept (λ a. is_in a keeps)) words
all-lead keeps words each k d less = by (get_or words k d) (in-get words k d less)
  where
    by : (w : ℕ) → is_in w words ≡ true → LeadsToKept (λ a. is_in a keeps) w
    by zero among = tt
    by (suc b) among = each b among

module _ (things : Things) (roots marked : List ℕ) (reached : (a : ℕ) → IsTrue (is_in a marked) ↔ EndsPath things roots a) where
  pub closed-marked : Closed things (λ a. is_in a marked)
  closed-marked = record {
    each = λ a x is kept.
        let path = (reached a).0 kept in
        all-lead marked x.refs (λ b led. (reached b).1 (a ∷ path.0, (subst (λ o. IsTrue (is_in (suc b) (words_in o))) (sym is) led, path.1)));
  }

  pub held-marked : All (LeadsToKept (λ a. is_in a marked)) roots
  held-marked = all-lead marked roots (λ b led. (reached b).1 ([], led))
