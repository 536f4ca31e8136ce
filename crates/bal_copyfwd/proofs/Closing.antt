-- What survives, and what roots hold, leads only to what survives.
use Rattle.std.proofs.Common.{◌≡◌, ℕ, zero, suc, inl, inr, Bool, true, false, List, get_or, Some, refl, ap, sym, ◌∙◌}
use Rattle.std.specs.Prelude.{◌||◌, All, IsTrue, is_some, not, option_and_then}
use Rattle.std.proofs.lemmas.Option.{slice_get-get_or}
use Rattle.bal_core.specs.World.{At}
use Rattle.bal_gather.specs.Gathered.{IsHeld}
use Rattle.bal_gather.specs.Lent.{Lent, is_chosen}
use Rattle.bal_gather.specs.Numbers.{number_of}
use Rattle.bal_kept.proofs.Lemmas.{IsGiven, Numbered, contains-at, at-contains, number, word-leads, word-points}
use Rattle.bal_layout.specs.References.{word_of}
use Rattle.bal_model.specs.Entries.{Spot}
use Rattle.bal_rules.specs.Board.{Board}
use Rattle.bal_table.specs.Table.{slot_place, things_of}
use Rattle.bal_words.specs.Moved.{Closed, LeadsToKept}
use Rattle.bal_words.specs.Shown.{Finds}
use Rattle.bal_words.specs.Things.{Thing}
use Rattle.bal_words.proofs.Lemmas.{there}
use Rattle.bal_copyfwd.specs.Moving.{Decisions, IsQuiet, decided_at, survives}

-- what is decided by its number
decided-some : (l : Lent) (decisions : Decisions) (a k : ℕ) → number_of l a ≡ Some k → is_some (decisions k) ≡ true → is_some (decided_at l decisions a) ≡ true
decided-some l decisions a k is some = ap (λ o. is_some (option_and_then decisions o)) is ∙ some

some-decided : (l : Lent) (decisions : Decisions) (a k : ℕ) → number_of l a ≡ Some k → is_some (decided_at l decisions a) ≡ true → is_some (decisions k) ≡ true
some-decided l decisions a k is some = sym (ap (λ o. is_some (option_and_then decisions o)) is) ∙ some

module _ {b : Board} {spot : ℕ → Spot} {l : Lent} {roots held places : List ℕ} (g : IsGiven b spot l roots held places) (pool : List ℕ) (decisions : Decisions)
    (quiet : IsQuiet l held pool decisions) where
  -- an object of the chosen regions that is held from outside is decided
  held-decided : (a k : ℕ) → number_of l a ≡ Some k → IsHeld l roots a → is_some (decided_at l decisions a) ≡ true
  held-decided a k is held-so = decided-some l decisions a k is (quiet.roots k (contains-at held k ((g.holds a k is).1 held-so)))

  survives-if : (a : ℕ) → (is_chosen l a ≡ true → is_some (decided_at l decisions a) ≡ true) → survives l decisions a ≡ true
  survives-if a chosen = by (is_chosen l a) refl
    where
      by : (c : Bool) → is_chosen l a ≡ c → survives l decisions a ≡ true
      by false out = ap (λ c. not c || is_some (decided_at l decisions a)) out
      by true in-it = ap (λ c. not c || is_some (decided_at l decisions a)) in-it ∙ chosen in-it

  -- a word that finds an object, where each reason why that is held from outside is one of these
  leads : (word : ℕ) → Finds (things_of l.table) word
      → ((a k : ℕ) (x : Thing) → word ≡ word_of a → things_of l.table a ≡ Some x → is_chosen l a ≡ true → number_of l a ≡ Some k → is_some (decided_at l decisions a) ≡ true)
      → LeadsToKept (survives l decisions) word
  leads zero finds reason = tt
  leads (suc a) finds reason =
      let x = there (things_of l.table a) finds in
      survives-if a (λ chosen. let k = number g a x.0 x.1 chosen in reason a k.0 x.0 refl x.1 chosen ((g.numbers a k.0).1 k.1))

  pub roots-kept : All (LeadsToKept (survives l decisions)) roots
  roots-kept k d within =
      leads (get_or roots k d) (g.from.decodes.held.found k d within)
      (λ a n x word is chosen has. held-decided a n has (inl (at-contains roots k (word_of a) (slice_get-get_or roots k d within ∙ ap Some word))))

  pub survivors-closed : Closed (things_of l.table) (survives l decisions)
  survivors-closed = record {
    each = λ a x is keeps k d within.
        leads (get_or x.refs k d) (g.from.decodes.objects.found a x is k d within)
        (λ c n y word there-is chosen has. by a x is keeps k c n y there-is chosen has (slice_get-get_or x.refs k d within ∙ ap Some word) (is_chosen l a) refl);
  }
    where
      by : (a : ℕ) (x : Thing) → things_of l.table a ≡ Some x → IsTrue (survives l decisions a) → (i c n : ℕ) (y : Thing) → things_of l.table c ≡ Some y → is_chosen l c ≡ true
          → number_of l c ≡ Some n → At x.refs i (word_of c) → (b : Bool) → is_chosen l a ≡ b → is_some (decided_at l decisions c) ≡ true
      by a x is keeps i c n y there-is chosen has at false out =
          held-decided c n has (inr (slot_place l.table a i, word-leads g c y there-is a i x is out at))
      by a x is keeps i c n y there-is chosen has at true lies =
          let j = number g a x is lies in
          let own = (g.numbers a j.0).1 j.1 in
          let decided = sym (ap (λ c. not c || is_some (decided_at l decisions a)) lies) ∙ keeps in
          let o : Numbered l = record { number = j.0; address = a; thing = x; at = j.1; is = is } in
          let p : Numbered l = record { number = n; address = c; thing = y; at = (g.numbers c n).0 has; is = there-is } in
          decided-some l decisions c n has (quiet.targets j.0 n (some-decided l decisions a j.0 own decided) (word-points g pool o p i at))
