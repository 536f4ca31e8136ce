-- How bytes that wait after written ones follow each other to the sink.
use Rattle.std.proofs.Common.{◌≡◌, ℕ, ◌+◌, List, [], ◌++◌, length, false, Option, Result, Ok, Err, OnOk, OnErr, is_err, sym, ap, ◌∙◌, subst, arith, append_assoc, append-nil, length-append}
use Rattle.std.proofs.lemmas.Bool.{true≢false}
use Rattle.std.proofs.Math.Seq.{take-append-add}
use Rattle.std.proofs.lemmas.Result.{on_ok_weaker, on_err_weaker}
use Rattle.std.proofs.KnownBytes.{Appends-nil, Appends-trans}
use Rattle.std.specs.Io.KnownBytes.{Appends}
use Rattle.bal_source.specs.Buffer.{Moment, Passes, Delivers, IsOnItsWay}
use Rattle.bal_source.specs.Causes.{HasCause}
use Rattle.bal_source.specs.Streams.{AppendsFront}

-- what holds whatever the answer, holds at an error
pub at-error : {T E : Type 0} {P : Type 0} (result : Result T E) → P → OnErr result P
at-error (Ok x) p = tt
at-error (Err e) p = p

-- a front that is written after other bytes is a front of both
pub front-behind : (a b c : Option (List ℕ)) (written rest : List ℕ)
    → Appends a b written → AppendsFront b c rest → AppendsFront a c (written ++ rest)
front-behind a b c written rest before front = record {
  count = length written + front.count;
  within = omega (arith, length-append written rest, front.within);
  front = subst (Appends a c) (sym (take-append-add written rest front.count)) (Appends-trans a b c _ _ before front.front);
}

-- before the first fault nothing was given since the moment itself
pub passes-none : (now : Moment) → now.failed ≡ false → Passes now now []
passes-none now sound = record {
  later = omega arith;
  going = λ _. record { written = []; appended = Appends-nil now.held; whole = append-nil now.waiting };
  broken = λ broken. absurd (true≢false (sym broken ∙ sound));
}

-- bytes that go on their way after others
pub way-behind : (a b c : Option (List ℕ)) (bytes waiting more left : List ℕ)
    → IsOnItsWay a b bytes waiting → IsOnItsWay b c (waiting ++ more) left → IsOnItsWay a c (bytes ++ more) left
way-behind a b c bytes waiting more left first second = record {
  written = first.written ++ second.written;
  appended = Appends-trans a b c _ _ first.appended second.appended;
  whole = ap (λ l. l ++ more) first.whole ∙ append_assoc first.written waiting more ∙ ap (λ l. first.written ++ l) second.whole
      ∙ sym (append_assoc first.written second.written left);
}

-- what waited and then a piece, both written
pub both-written : {T E : Type 0} (a b c : Option (List ℕ)) (waiting piece left : List ℕ) (result : Result T E)
    → Appends a b waiting → OnOk result (Appends b c piece) → left ≡ [] → OnOk result (IsOnItsWay a c (waiting ++ piece) left)
both-written a b c waiting piece left (Ok x) first second none = record {
  written = waiting ++ piece;
  appended = Appends-trans a b c waiting piece first second;
  whole = sym (append-nil (waiting ++ piece)) ∙ ap (λ l. (waiting ++ piece) ++ l) (sym none);
}
both-written a b c waiting piece left (Err e) first second none = tt

-- a piece that was passed on after a text: it is on its way with the text, or both were cut short
pub passed-on : {T E : Type 0} (from mid now : Moment) (text piece : List ℕ) (result : Result T E)
    → Passes from mid text → mid.failed ≡ false
    → OnOk result (IsOnItsWay mid.held now.held (mid.waiting ++ piece) now.waiting)
    → OnErr result (AppendsFront mid.held now.held (mid.waiting ++ piece))
    → HasCause mid.faults now.faults result → now.failed ≡ is_err result
    → Passes from now (text ++ piece)
passed-on from mid now text piece (Ok x) passes sound all front cause failed = record {
  later = omega (arith, passes.later, cause.later);
  going = λ _. subst (λ bytes. IsOnItsWay from.held now.held bytes now.waiting) (append_assoc from.waiting text piece)
      (way-behind _ _ _ _ _ _ _ (passes.going sound) all);
  broken = λ broken. absurd (true≢false (sym broken ∙ failed));
}
passed-on from mid now text piece (Err e) passes sound all front cause failed =
    let way = passes.going sound in
    let whole : way.written ++ (mid.waiting ++ piece) ≡ from.waiting ++ (text ++ piece) =
    sym (append_assoc way.written mid.waiting piece) ∙ sym (ap (λ l. l ++ piece) way.whole) ∙ append_assoc from.waiting text piece in
    record {
      later = omega (arith, passes.later, cause.later);
      going = λ going. absurd (true≢false (sym failed ∙ going));
      broken = λ _. record {
        front = subst (AppendsFront from.held now.held) whole (front-behind _ _ _ _ _ way.appended front);
        rose = omega (arith, passes.later, cause.failed);
      };
    }

-- what waits is written after a text that was given: the text is delivered
pub delivered : {T E : Type 0} (from now : Moment) (held : Option (List ℕ)) (faults : ℕ) (text : List ℕ) (result : Result T E)
    → Passes from now text → now.failed ≡ false
    → OnOk result (Appends now.held held now.waiting) → AppendsFront now.held held now.waiting → HasCause now.faults faults result
    → Delivers from held faults text result
delivered from now held faults text result passes sound all front cause =
    let way = passes.going sound in
    record {
      all = on_ok_weaker result
          (λ arrived. subst (Appends from.held held) (sym way.whole) (Appends-trans from.held now.held held _ _ way.appended arrived)) all;
      front = subst (AppendsFront from.held held) (sym way.whole) (front-behind _ _ _ _ _ way.appended front);
      cause = record {
        later = omega (arith, passes.later, cause.later);
        failed = on_err_weaker result (λ rose. omega (arith, passes.later, rose)) cause.failed;
      };
    }
