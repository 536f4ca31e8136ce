-- Equality of the words of traces and journals: each has a code of numbers, which is read back.
use Rattle.std.proofs.Common.{◌≡◌, ℕ, zero, suc, List, Bool, false, ◌&&◌, Option, Some, None, refl}
use Rattle.bal_layout.specs.declared.name.Name.{Name}
use Rattle.bal_layout.specs.declared.name.Abort.{Abort}
use Rattle.bal_layout.specs.declared.name.Abort.TheVariants as abort
use Rattle.bal_model.specs.declared.row.Op.{Op}
use Rattle.bal_model.specs.declared.row.Op.TheVariants as op
use Rattle.bal_model.specs.declared.row.Reply.{Reply}
use Rattle.bal_model.specs.declared.row.Reply.TheVariants as reply
use Rattle.bal_model.specs.declared.row.Row.{Row}
use Rattle.bal_model.specs.Entries.{Entry, Spot, row}
use Rattle.std.specs.Bool.{Decides}
use Rattle.std.proofs.lemmas.Bool.Decides.{Decides-and, Decides-like}
use Rattle.bal_laws.proofs.Deciders.{Decided, Equality, numbers, pairs, lists, options, coded}

abbrev pub names : Equality Name
names = coded (pairs numbers numbers) (λ (x : Name). (x.thread, x.ordinal)) (λ (p : ℕ × ℕ). record { thread = p.0; ordinal = p.1 }) (λ (x : Name). refl)

abbrev abort_code : Abort → Option ℕ
abort_code (abort.Wished w) = Some w
abort_code abort.Drained = None

abbrev abort_from : Option ℕ → Abort
abort_from (Some w) = abort.Wished w
abort_from None = abort.Drained

pub abort-back : (x : Abort) → abort_from (abort_code x) ≡ x
abort-back (abort.Wished w) = refl
abort-back abort.Drained = refl

abbrev pub aborts : Equality Abort
aborts = coded (options numbers) abort_code abort_from abort-back

-- a reply is its kind with two numbers
abbrev reply_code : Reply → ℕ × (ℕ × ℕ)
reply_code (reply.Name x) = (0, (x.thread, x.ordinal))
reply_code reply.Null = (1, (0, 0))
reply_code (reply.Number n) = (2, (n, 0))
reply_code reply.Ok = (3, (0, 0))
reply_code reply.Nil = (4, (0, 0))
reply_code reply.Slot = (5, (0, 0))
reply_code reply.Full = (6, (0, 0))

abbrev reply_of : ℕ → ℕ → ℕ → Reply
reply_of zero m n = reply.Name (record { thread = m; ordinal = n })
reply_of (suc zero) m n = reply.Null
reply_of (suc (suc zero)) m n = reply.Number m
reply_of (suc (suc (suc zero))) m n = reply.Ok
reply_of (suc (suc (suc (suc zero)))) m n = reply.Nil
reply_of (suc (suc (suc (suc (suc zero))))) m n = reply.Slot
reply_of (suc (suc (suc (suc (suc (suc kind)))))) m n = reply.Full

abbrev reply_from : ℕ × (ℕ × ℕ) → Reply
reply_from p = reply_of p.0 p.1.0 p.1.1

pub reply-back : (x : Reply) → reply_from (reply_code x) ≡ x
reply-back reply.Null = refl
reply-back r = refl

abbrev pub replies : Equality Reply
replies = coded (pairs numbers (pairs numbers numbers)) reply_code reply_from reply-back

-- what a row does is its kind with three numbers
abbrev op_code : Op → ℕ × (ℕ × (ℕ × ℕ))
op_code (op.New register refs values) = (0, (register, (refs, values)))
op_code (op.Arr register len) = (1, (register, (len, 0)))
op_code (op.Store holder slot value) = (2, (holder, (slot, value)))
op_code (op.Load into holder slot) = (3, (into, (holder, slot)))
op_code (op.Put holder slot number) = (4, (holder, (slot, number)))
op_code (op.Get holder slot) = (5, (holder, (slot, 0)))
op_code (op.GStore place register) = (6, (place, (register, 0)))
op_code (op.GLoad into place) = (7, (into, (place, 0)))
op_code (op.Drop register) = (8, (register, (0, 0)))
op_code op.Gc = (9, (0, (0, 0)))

abbrev op_of : ℕ → ℕ → ℕ → ℕ → Op
op_of zero a b c = op.New a b c
op_of (suc zero) a b c = op.Arr a b
op_of (suc (suc zero)) a b c = op.Store a b c
op_of (suc (suc (suc zero))) a b c = op.Load a b c
op_of (suc (suc (suc (suc zero)))) a b c = op.Put a b c
op_of (suc (suc (suc (suc (suc zero))))) a b c = op.Get a b
op_of (suc (suc (suc (suc (suc (suc zero)))))) a b c = op.GStore a b
op_of (suc (suc (suc (suc (suc (suc (suc zero))))))) a b c = op.GLoad a b
op_of (suc (suc (suc (suc (suc (suc (suc (suc zero)))))))) a b c = op.Drop a
op_of (suc (suc (suc (suc (suc (suc (suc (suc (suc kind))))))))) a b c = op.Gc

abbrev op_from : ℕ × (ℕ × (ℕ × ℕ)) → Op
op_from p = op_of p.0 p.1.0 p.1.1.0 p.1.1.1

pub op-back : (x : Op) → op_from (op_code x) ≡ x
op-back op.Gc = refl
op-back o = refl

abbrev pub ops : Equality Op
ops = coded (pairs numbers (pairs numbers (pairs numbers numbers))) op_code op_from op-back

abbrev pub row_equality : Equality Row
row_equality = coded (pairs numbers ops) (λ (r : Row). (r.thread, r.op)) (λ (p : ℕ × Op). record { thread = p.0; op = p.1 }) (λ (r : Row). refl)

abbrev pub spots : Equality Spot
spots = coded (pairs numbers (lists numbers)) (λ (s : Spot). (s.region, s.leaves)) (λ (p : ℕ × List ℕ). record { region = p.0; leaves = p.1 }) (λ (s : Spot). refl)

-- whether an event is this row event
abbrev pub row_test : ℕ → ℕ → Op → Reply → Option Spot → Option Entry → Bool
row_test t k o r p (Some (row t' k' o' r' p')) =
    numbers.same t' t && (numbers.same k' k && (ops.same o' o && (replies.same r' r && (options spots).same p' p)))
row_test t k o r p e = false

pub row_decides : (t k : ℕ) (o : Op) (r : Reply) (p : Option Spot) (e : Option Entry) → Decides (row_test t k o r p e) (e ≡ Some (row t k o r p))
row_decides t k o r p (Some (row t' k' o' r' p')) =
    Decides-like _ (λ (h : (t' ≡ t) × ((k' ≡ k) × ((o' ≡ o) × ((r' ≡ r) × (p' ≡ p))))). cc) (λ h. (cc, (cc, (cc, (cc, cc)))))
    (Decides-and _ _ (numbers.decides t' t) (Decides-and _ _ (numbers.decides k' k)
    (Decides-and _ _ (ops.decides o' o) (Decides-and _ _ (replies.decides r' r) ((options spots).decides p' p)))))
row_decides t k o r p e = (λ h. cc, λ h. cc)

abbrev pub is_row : (t k : ℕ) (o : Op) (r : Reply) (p : Option Spot) (e : Option Entry) → Decided (e ≡ Some (row t k o r p))
is_row t k o r p e = record { test = row_test t k o r p e; decides = row_decides t k o r p e }
