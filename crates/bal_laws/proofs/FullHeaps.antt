-- Where a run tells an allocation that the heap is full, it is.
use Rattle.std.proofs.Common.{◌≡◌, ◌⊎◌, inl, inr, ℕ, List, [], ◌∷◌, ◌++◌, Option, Some, None, refl, ap, sym, subst, ◌∙◌}
use Rattle.std.proofs.lemmas.Bool.{false≢true}
use Rattle.std.proofs.lemmas.Option.{same_Some, none-some}
use Rattle.bal_layout.specs.declared.geometry.Want.{Want}
use Rattle.bal_model.specs.declared.config.Config.{Config}
use Rattle.bal_model.specs.declared.row.Op.{Op}
use Rattle.bal_model.specs.declared.row.Reply.{Reply}
use Rattle.bal_model.specs.declared.row.Reply.TheVariants as reply
use Rattle.bal_model.specs.declared.row.Row.{Row}
use Rattle.bal_rules.specs.Board.{Board}
use Rattle.bal_model.specs.Entries.{Entry, Spot, row}
use Rattle.bal_rules.specs.Interim.{Rule}
use Rattle.bal_rules.specs.Path.{Turn, Stage, own_at, IsLegal}
use Rattle.bal_model.specs.Plain.{step}
use Rattle.bal_rules.specs.Room.{spot_for}
use Rattle.bal_model.specs.Plain.{is_full}
use Rattle.bal_rules.specs.RowEvents.{want_of}
use Rattle.bal_rules.specs.Run.{IsRun, board_of}
use Rattle.bal_model.proofs.Lemmas.{not-full}
use Rattle.bal_rules.proofs.Lemmas.{IsReallyFull, journal-keeps, legal-no-row, own-event}

-- of a list with one item more, an item is that one, or stands before it
last-or-before : (xs : List Entry) (x : Entry) (front : List Entry) (e : Entry) (behind : List Entry) → xs ++ x ∷ [] ≡ front ++ e ∷ behind
    → ((x ≡ e) × (xs ≡ front)) ⊎ ((rest : List Entry) × (xs ≡ front ++ e ∷ rest))
last-or-before [] x [] e behind h = inl ((cc), refl)
last-or-before [] x (f ∷ front) e behind h = absurd (by front (cc))
  where
    by : (front : List Entry) → [] ≡ front ++ e ∷ behind → ⊥
    by [] h = cc
    by (f ∷ front) h = cc
last-or-before (y ∷ ys) x [] e behind h = let same : y ≡ e = cc in inr (ys, ap (λ (z : Entry). z ∷ ys) same)
last-or-before (y ∷ ys) x (f ∷ front) e behind h =
    let same : y ≡ f = cc in
    let more : ys ++ x ∷ [] ≡ front ++ e ∷ behind = cc in
    elim (last-or-before ys x front e behind more) [
      | inl last ↦ (let is : x ≡ e = last.0 in let all : ys ≡ front = last.1 in inl (is, (cc)))
      | inr before ↦ (let rest = before.0 in let all : ys ≡ front ++ e ∷ rest = before.1 in inr (rest, (cc)))
    ]

same-op : (t k : ℕ) (o : Op) (r : Reply) (p : Option Spot) (u l : ℕ) (q : Op) (s : Reply) (d : Option Spot) → row t k o r p ≡ row u l q s d → o ≡ q
same-op t k o r p u l q s d h = cc

same-reply : (t k : ℕ) (o : Op) (r : Reply) (p : Option Spot) (u l : ℕ) (q : Op) (s : Reply) (d : Option Spot) → row t k o r p ≡ row u l q s d → r ≡ s
same-reply t k o r p u l q s d h = cc

-- an own event that says full is of a heap that is
full-own : (rule : Rule) (c : Config) (turn : Turn) (stage : Stage) (b : Board) (t k : ℕ) (o : Op) (p : Option Spot) (w : Want) → want_of c.geometry o ≡ Some w
    → own_at rule c turn stage b ≡ Some (row t k o reply.Full p)
    → IsReallyFull rule c b w
full-own rule c turn stage b t k o p w asks own =
    let u = turn.row.thread in
    let q = turn.row.op in
    let r = (step b.plain u q).0 in
    own-event (λ (e : Entry). e ≡ row t k o reply.Full p → IsReallyFull rule c b w) rule c turn stage b (row t k o reply.Full p)
    (λ none same. absurd (none-some w (sym none ∙ ap (want_of c.geometry) (same-op u turn.number q r None t k o reply.Full p same) ∙ asks)))
    (λ v asks' same. absurd (false≢true (sym (not-full b.plain u q) ∙ ap is_full (same-reply u turn.number q r (Some (spot_for c.geometry b.regions b.current v)) t k o reply.Full p same))))
    (λ v asks' full same. subst (IsReallyFull rule c b) (same_Some v w (sym asks' ∙ ap (want_of c.geometry) (same-op u turn.number q reply.Full None t k o reply.Full p same) ∙ asks)) full)
    own refl

pub really-full : (rule : Rule) (c : Config) (rows : List Row) (before : List Entry) (t k : ℕ) (o : Op) (p : Option Spot) (behind : List Entry) (w : Want)
    → IsRun rule c rows (before ++ row t k o reply.Full p ∷ behind) → want_of c.geometry o ≡ Some w → IsReallyFull rule c (board_of c before) w
really-full rule c rows before t k o p behind w run asks =
    let e = row t k o reply.Full p in
    journal-keeps rule c rows (λ (es : List Entry). (front behind : List Entry) → es ≡ front ++ e ∷ behind → IsReallyFull rule c (board_of c front) w)
    (λ turn stage done x h next le front behind is. elim (last-or-before done x front e behind is) [
      | inl last ↦ absurd (legal-no-row rule c turn stage (board_of c done) t k o reply.Full p (subst (IsLegal rule c turn stage (board_of c done)) last.0 le))
      | inr inside ↦ h front inside.0 inside.1
    ])
    (λ turn stage done x h next own front behind is. elim (last-or-before done x front e behind is) [
      | inl last ↦ subst (λ (es : List Entry). IsReallyFull rule c (board_of c es) w) last.1 (full-own rule c turn stage (board_of c done) t k o p w asks (own ∙ ap Some last.0))
      | inr inside ↦ h front inside.0 inside.1
    ])
    (before ++ e ∷ behind) (λ front behind is. absurd (none front behind is)) run before behind refl
  where
    none : (front behind : List Entry) → [] ≡ front ++ row t k o reply.Full p ∷ behind → ⊥
    none [] behind h = cc
    none (f ∷ front) behind h = cc
