-- Just the survivors are there after an evacuation, each where it went.
use Rattle.std.proofs.Common.{◌≡◌, ℕ, Bool, true, false, cond, List, length, Option, Some, None, refl, ap, sym, ◌∙◌}
use Rattle.std.specs.Prelude.{◌&&◌, ◌||◌, IsSome, IsTrue, is_some, not, option_and_then, unwrap_or}
use Rattle.std.proofs.lemmas.Bool.{false≢true, true≢false}
use Rattle.std.proofs.lemmas.Option.{none-some}
use Rattle.bal_core.specs.declared.event.Decision.{Decision}
use Rattle.bal_core.specs.declared.event.Decision.TheVariants as decision
use Rattle.bal_gather.specs.Lent.{Lent, MayBeChosen, is_chosen}
use Rattle.bal_gather.specs.Numbers.{starts_below}
use Rattle.bal_layout.specs.Addresses.{region_of}
use Rattle.bal_layout.specs.Regions.{is_in}
use Rattle.bal_table.specs.Table.{IsTable, Table, things_of}
use Rattle.bal_words.specs.Moved.{Carried}
use Rattle.bal_words.specs.Things.{Thing}
use Rattle.bal_copyfwd.specs.Moving.{Decisions, IsLeft, IsPutBack, address_of_copy, copy_of, decided_at, goes_to, is_mark, is_marked_at, survives}
use Rattle.bal_copyfwd.proofs.Roles.{object-role}

-- one that was copied was decided, and one that was marked has no copy
copied-decided : (o : Option Decision) (b : ℕ) → option_and_then address_of_copy o ≡ Some b → is_some o ≡ true
copied-decided None b is = absurd (none-some b is)
copied-decided (Some d) b is = refl

marked-decided : (o : Option Decision) → is_mark o ≡ true → (is_some o ≡ true) × (option_and_then address_of_copy o ≡ None)
marked-decided None is = absurd (false≢true is)
marked-decided (Some (decision.Copied b)) is = absurd (false≢true is)
marked-decided (Some decision.Marked) is = (refl, refl)

is-there : {A : Type 0} (o : Option A) (x : A) → o ≡ Some x → IsSome o
is-there None x is = absurd (none-some x is)
is-there (Some y) x is = refl

or-right : (b c : Bool) → c ≡ true → (b || c) ≡ true
or-right true c is = refl
or-right false c is = is

module _ (l : Lent) (decisions : Decisions) (drawn : List ℕ) (u v : Table) (table : IsTable l.table) (chosen : MayBeChosen l.table l.regions)
    (back : IsPutBack l decisions drawn u) (left : IsLeft l decisions u v) where
  abbrev t : Table
  t = l.table

  -- what does not lie in a chosen region has no number, and goes nowhere
  stays : (a : ℕ) → is_chosen l a ≡ false → copy_of l decisions a ≡ None
  stays a out = ap (λ b. option_and_then address_of_copy (option_and_then decisions (cond (b && is_some (things_of t a)) (Some (length (starts_below l a))) None))) out

  -- no object lay in a region that was drawn
  not-drawn : (a : ℕ) (x : Thing) → things_of t a ≡ Some x → is_in (region_of t.shape a) drawn ≡ false
  not-drawn a x is = by (is_in (region_of t.shape a) drawn) refl
    where
      by : (b : Bool) → is_in (region_of t.shape a) drawn ≡ b → b ≡ false
      by false out = refl
      by true lies = absurd (false≢true (sym (back.free (region_of t.shape a) lies) ∙ object-role t a table (is-there (things_of t a) x is)))

  -- and none of them is chosen
  drawn-out : (b : ℕ) → IsTrue (is_in (region_of t.shape b) drawn) → is_chosen l b ≡ false
  drawn-out b lies = by (is_chosen l b) refl
    where
      by : (c : Bool) → is_chosen l b ≡ c → c ≡ false
      by false out = refl
      by true is = absurd (false≢true (sym (back.free (region_of t.shape b) lies) ∙ chosen.objects (region_of t.shape b) is))

  outside : (a : ℕ) → is_chosen l a ≡ false → things_of v a ≡ things_of u a
  outside a out = left.objects a ∙ ap (λ b. cond b (cond (is_marked_at l decisions a) (things_of u a) None) (things_of u a)) out

  inside : (a : ℕ) → is_chosen l a ≡ true → things_of v a ≡ cond (is_marked_at l decisions a) (things_of u a) None
  inside a is = left.objects a ∙ ap (λ b. cond b (cond (is_marked_at l decisions a) (things_of u a) None) (things_of u a)) is

  kept : (a : ℕ) (x : Thing) → things_of t a ≡ Some x → survives l decisions a ≡ true → things_of v (goes_to l decisions a) ≡ Some x
  kept a x is keeps = by (is_chosen l a) refl (decided_at l decisions a) refl
    where
      by : (b : Bool) → is_chosen l a ≡ b → (d : Option Decision) → decided_at l decisions a ≡ d → things_of v (goes_to l decisions a) ≡ Some x
      by false out d is-d =
          ap (λ o. things_of v (unwrap_or o a)) (stays a out) ∙ (outside a out ∙ (back.others a (not-drawn a x is) ∙ is))
      by true lies None none =
          absurd (false≢true (sym (ap (λ b. not b || is_some (decided_at l decisions a)) lies ∙ ap is_some none) ∙ keeps))
      by true lies (Some (decision.Copied b)) copied =
          let copy : copy_of l decisions a ≡ Some b = ap (option_and_then address_of_copy) copied in
          let there = back.copies a b copy in
          ap (λ o. things_of v (unwrap_or o a)) copy ∙ (outside b (drawn-out b there.0) ∙ (there.1 ∙ is))
      by true lies (Some decision.Marked) marked =
          ap (λ o. things_of v (unwrap_or o a)) (ap (option_and_then address_of_copy) marked)
          ∙ (inside a lies
          ∙ (ap (λ b. cond b (things_of u a) None) (ap is_mark marked)
          ∙ (back.others a (not-drawn a x is) ∙ is)))

  only : (b : ℕ) (x : Thing) → things_of v b ≡ Some x → (a : ℕ) × (things_of t a ≡ Some x) × IsTrue (survives l decisions a) × (goes_to l decisions a ≡ b)
  only b x is = by (is_chosen l b) refl (is_marked_at l decisions b) refl (is_in (region_of t.shape b) drawn) refl
    where
      by : (c : Bool) → is_chosen l b ≡ c → (m : Bool) → is_marked_at l decisions b ≡ m → (d : Bool) → is_in (region_of t.shape b) drawn ≡ d
          → (a : ℕ) × (things_of t a ≡ Some x) × IsTrue (survives l decisions a) × (goes_to l decisions a ≡ b)
      by true lies false none d is-d = absurd (none-some x (sym (inside b lies ∙ ap (λ c. cond c (things_of u b) None) none) ∙ is))
      by true lies true marked false out =
          let known = marked-decided (decided_at l decisions b) marked in (
            b,
            sym (back.others b out) ∙ (sym (ap (λ c. cond c (things_of u b) None) marked) ∙ (sym (inside b lies) ∙ is)),
            or-right (not (is_chosen l b)) (is_some (decided_at l decisions b)) known.0,
            ap (λ o. unwrap_or o b) known.1,
          )
      by true lies true marked true here = absurd (true≢false (sym lies ∙ drawn-out b here))
      by false out m is-m false other =
          (b, sym (back.others b other) ∙ (sym (outside b out) ∙ is), ap (λ c. not c || is_some (decided_at l decisions b)) out, ap (λ o. unwrap_or o b) (stays b out))
      by false out m is-m true here =
          let copy = back.only b x here (sym (outside b out) ∙ is) in (
            copy.0,
            sym (back.copies copy.0 b copy.1).1 ∙ (sym (outside b out) ∙ is),
            or-right (not (is_chosen l copy.0)) (is_some (decided_at l decisions copy.0)) (copied-decided (decided_at l decisions copy.0) b copy.1),
            ap (λ o. unwrap_or o copy.0) copy.1,
          )

  pub survivors-carried : Carried (things_of t) (things_of v) (survives l decisions) (goes_to l decisions)
  survivors-carried = record { carried = kept; only = only }
