-- Each region is drawn once: kept where nothing is drawn, where a region is drawn, and where a draw gives none.
use Rattle.std.proofs.Common.{◌≡◌, ◌⊎◌, ◌+◌, ◌<◌, ◌≤◌, ℕ, inl, inr, length, ap, sym, subst, ◌∙◌, arith}
use Rattle.std.proofs.lemmas.Bool.{cases_lt}
use Rattle.bal_core.specs.declared.row.Drawn.{Drawn}
use Rattle.bal_core.specs.World.{At, State, World, row_of}
use Rattle.bal_core.specs.Core.{AreDrawnOnce, Draws}
use Rattle.bal_core.proofs.Lists.{Pushed}

-- the counter may rise past the pool's end
pub record Stays (s t : State) : Type 0 where
  pub world : t.world ≡ s.world
  pub rows : (m : ℕ) → (row_of t m).drawn ≡ (row_of s m).drawn
  pub rises : s.counter ≤ t.counter
  pub past : (o : ℕ) → o < t.counter → o < length s.world.pool → o < s.counter

pub drawn-same : (s t : State) → Stays s t → AreDrawnOnce s → AreDrawnOnce t
drawn-same s t stays drawn = record { drawn = here; all = all; once = once }
  where
    back : (n i : ℕ) (d : Drawn) → Draws t n i d → Draws s n i d
    back n i d at = subst (λ l. At l i d) (stays.rows n) at

    here : (n i : ℕ) (d : Drawn) → Draws t n i d → (d.ordinal < t.counter) × At t.world.pool d.ordinal d.region × (d.age ≤ 24)
    here n i d at =
        let old : (d.ordinal < s.counter) × At s.world.pool d.ordinal d.region × (d.age ≤ 24) = drawn.drawn n i d (back n i d at) in
        (omega (arith, old.0, stays.rises), subst (λ (w : World). At w.pool d.ordinal d.region) (sym stays.world) old.1, old.2)

    all : (o : ℕ) → o < t.counter → o < length t.world.pool → (n : ℕ) × (i : ℕ) × (d : Drawn) × Draws t n i d × (d.ordinal ≡ o)
    all o below within =
        let pool : o < length s.world.pool = subst (λ (w : World). o < length w.pool) stays.world within in
        let old : (n : ℕ) × (i : ℕ) × (d : Drawn) × Draws s n i d × (d.ordinal ≡ o) = drawn.all o (stays.past o below pool) pool in
        (old.0, old.1, old.2, subst (λ l. At l old.1 old.2) (sym (stays.rows old.0)) old.3, old.4)

    once : (n m i j : ℕ) (d e : Drawn) → Draws t n i d → Draws t m j e → d.ordinal ≡ e.ordinal → (n ≡ m) × (i ≡ j)
    once n m i j d e one two same = drawn.once n m i j d e (back n i d one) (back m j e two) same

-- worker n draws the region at the counter
pub record Takes (s t : State) (n : ℕ) (x : Drawn) : Type 0 where
  pub world : t.world ≡ s.world
  pub pushed : Pushed (λ m. (row_of s m).drawn) (λ m. (row_of t m).drawn) n x
  pub counter : t.counter ≡ s.counter + 1
  pub ordinal : x.ordinal ≡ s.counter
  pub region : At s.world.pool s.counter x.region
  pub age : x.age ≤ 24

abbrev Old : State → ℕ → Drawn → ℕ → ℕ → Drawn → Type 0
Old s n x m i d = Draws s m i d ⊎ ((m ≡ n) × (i ≡ length (row_of s n).drawn) × (d ≡ x))

pub drawn-more : (s t : State) (n : ℕ) (x : Drawn) → Takes s t n x → AreDrawnOnce s → AreDrawnOnce t
drawn-more s t n x takes drawn = record { drawn = here; all = all; once = once }
  where
    here : (m i : ℕ) (d : Drawn) → Draws t m i d → (d.ordinal < t.counter) × At t.world.pool d.ordinal d.region × (d.age ≤ 24)
    here m i d at = elim (takes.pushed.cases m i d at) [
      | inl before ↦
          let old : (d.ordinal < s.counter) × At s.world.pool d.ordinal d.region × (d.age ≤ 24) = drawn.drawn m i d before in
          (omega (arith, old.0, takes.counter), subst (λ (w : World). At w.pool d.ordinal d.region) (sym takes.world) old.1, old.2)
      | inr new ↦
          let ordinal : d.ordinal ≡ s.counter = ap (λ (r : Drawn). r.ordinal) new.2 ∙ takes.ordinal in
          let region : x.region ≡ d.region = ap (λ (r : Drawn). r.region) (sym new.2) in
          let age : d.age ≡ x.age = ap (λ (r : Drawn). r.age) new.2 in (
            omega (arith, ordinal, takes.counter),
            subst (λ (w : World). At w.pool d.ordinal d.region) (sym takes.world)
                (subst (λ o. At s.world.pool o d.region) (sym ordinal) (subst (λ q. At s.world.pool s.counter q) region takes.region)),
            (let most : x.age ≤ 24 = takes.age in omega (arith, age, most)),
          )
    ]

    all : (o : ℕ) → o < t.counter → o < length t.world.pool → (m : ℕ) × (i : ℕ) × (d : Drawn) × Draws t m i d × (d.ordinal ≡ o)
    all o below within = elim (cases_lt o s.counter) [
      | inl less ↦
          let old : (m : ℕ) × (i : ℕ) × (d : Drawn) × Draws s m i d × (d.ordinal ≡ o)
          = drawn.all o less (subst (λ (w : World). o < length w.pool) takes.world within) in
          (old.0, old.1, old.2, takes.pushed.kept old.0 old.1 old.2 old.3, old.4)
      | inr least ↦ (
        n,
        length (row_of s n).drawn,
        x,
        takes.pushed.new,
        (let here : x.ordinal ≡ s.counter = takes.ordinal in
            let counter : t.counter ≡ s.counter + 1 = takes.counter in
            omega (arith, here, counter, below, least)),
      )
    ]

    both : (m p i j : ℕ) (d e : Drawn) → Old s n x m i d → Old s n x p j e → d.ordinal ≡ e.ordinal → (m ≡ p) × (i ≡ j)
    both m p i j d e (inl one) (inl two) same = drawn.once m p i j d e one two same
    both m p i j d e (inl one) (inr two) same =
        let less : d.ordinal < s.counter = (drawn.drawn m i d one).0 in
        let there : e.ordinal ≡ s.counter = ap (λ (r : Drawn). r.ordinal) two.2 ∙ takes.ordinal in
        absurd (omega (arith, less, there, same))
    both m p i j d e (inr one) (inl two) same =
        let less : e.ordinal < s.counter = (drawn.drawn p j e two).0 in
        let there : d.ordinal ≡ s.counter = ap (λ (r : Drawn). r.ordinal) one.2 ∙ takes.ordinal in
        absurd (omega (arith, less, there, same))
    both m p i j d e (inr one) (inr two) same = (one.0 ∙ sym two.0, one.1 ∙ sym two.1)

    once : (m p i j : ℕ) (d e : Drawn) → Draws t m i d → Draws t p j e → d.ordinal ≡ e.ordinal → (m ≡ p) × (i ≡ j)
    once m p i j d e one two same = both m p i j d e (takes.pushed.cases m i d one) (takes.pushed.cases p j e two) same
