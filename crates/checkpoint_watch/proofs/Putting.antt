-- Pieces of a text that are put one after the other.
use Rattle.std.proofs.Common.{◌≡◌, ℕ, zero, suc, ◌+◌, ◌<◌, ◌≤◌, List, [], ◌∷◌, ◌++◌, length, take, Option, Some, None, Result, Ok, Err, refl, sym, ap, ◌∙◌, subst, arith, append_assoc, length-append}
use Rattle.std.proofs.lemmas.List.{append-nil}
use Rattle.std.specs.Prelude.{IsErr}
use Rattle.rec_io.specs.Causes.{count_after}
use Rattle.rec_io.specs.Sink.{SinkState}
use Rattle.rec_io.specs.Written.{Takes, TakesPrefix}
use Rattle.rec_io.proofs.WrittenLemmas.{Takes-append}
use Rattle.checkpoint_watch.specs.Puts.{Puts}

-- so much of a text has been put, and no put failed, that this is left of it
pub record IsLeft (before now : SinkState) (rest whole : List ℕ) : Type 0 where
  pub taken : List ℕ
  pub all : Takes before.written now.written taken
  pub calm : now.faults ≡ before.faults
  pub is : taken ++ rest ≡ whole

-- ---- fronts

take_in_front : (n : ℕ) (xs ys : List ℕ) → n ≤ length xs → take n (xs ++ ys) ≡ take n xs
take_in_front zero xs ys le = refl
take_in_front (suc n) [] ys le = absurd (omega arith)
take_in_front (suc n) (x ∷ xs) ys le = ap (λ (zs : List ℕ). x ∷ zs) (take_in_front n xs ys (omega arith))

take_behind : (n N : ℕ) (xs ys : List ℕ) → N ≡ length xs + n → take N (xs ++ ys) ≡ xs ++ take n ys
take_behind n N [] ys e = let f : N ≡ n = omega arith in rw f refl
take_behind n zero (x ∷ xs) ys e = absurd (omega arith)
take_behind n (suc N) (x ∷ xs) ys e = ap (λ (zs : List ℕ). x ∷ zs) (take_behind n N xs ys (omega arith))

takes_nothing : (bytes : Option (List ℕ)) → Takes bytes bytes []
takes_nothing None = refl
takes_nothing (Some bytes) = ap (λ (bs : List ℕ). Some bs) (sym (append-nil bytes))

-- a front of what comes behind a piece is, with the piece, a front of all
prefix_behind : (a b c : Option (List ℕ)) (taken piece more whole : List ℕ) → Takes a b taken → TakesPrefix b c piece → taken ++ (piece ++ more) ≡ whole → TakesPrefix a c whole
prefix_behind a b c taken piece more whole first part is =
    let lt : part.count < length piece = part.within in
    let N : ℕ = length taken + part.count in
    let front : take N (taken ++ (piece ++ more)) ≡ taken ++ take part.count piece =
    take_behind part.count N taken (piece ++ more) refl ∙ ap (λ (xs : List ℕ). taken ++ xs) (take_in_front part.count piece more (omega arith)) in
    record {
      count = N;
      within = subst (λ (xs : List ℕ). N < length xs) is (omega (arith, length-append taken (piece ++ more), length-append piece more, lt));
      taken = subst (λ (xs : List ℕ). Takes a c xs) (sym front ∙ ap (take N) is) (Takes-append a b c taken (take part.count piece) first part.taken);
    }

-- ---- pieces

pub all_left : (s : SinkState) (whole : List ℕ) → IsLeft s s whole whole
all_left s whole = record { taken = []; all = takes_nothing s.written; calm = refl; is = refl }

-- a piece of what is left
pub less_left : {T E : Type 0} (a b c : SinkState) (piece more rest whole : List ℕ) (x : T) → IsLeft a b rest whole → rest ≡ piece ++ more → Puts {T = T} {E = E} b c piece (Ok x) → IsLeft a c more whole
less_left a b c piece more rest whole x left e puts = record {
  taken = left.taken ++ piece;
  all = Takes-append a.written b.written c.written left.taken piece left.all puts.all;
  calm = puts.calm ∙ left.calm;
  is = append_assoc left.taken piece more ∙ ap (λ (xs : List ℕ). left.taken ++ xs) (sym e) ∙ left.is;
}

-- nothing is left
pub none_left : {T E : Type 0} (a b : SinkState) (whole : List ℕ) (x : T) → IsLeft a b [] whole → Puts {T = T} {E = E} a b whole (Ok x)
none_left a b whole x left =
    let e : left.taken ≡ whole = sym (append-nil left.taken) ∙ left.is in
    record {
      cause = record { later = omega (arith, left.calm); failed = tt };
      calm = left.calm;
      failed = tt;
      all = subst (λ (xs : List ℕ). Takes a.written b.written xs) e left.all;
      part = tt;
    }

-- a piece that was not taken whole
pub stops_there : {T U E F : Type 0} (a b c : SinkState) (piece more rest whole : List ℕ) (e : E) (f : F) → IsLeft a b rest whole → rest ≡ piece ++ more → Puts {T = T} {E = E} b c piece (Err e) → Puts {T = U} {E = F} a c whole (Err f)
stops_there a b c piece more rest whole e f left is puts = record {
  cause = record {
    later = omega (arith, left.calm, puts.cause.later);
    failed = puts.cause.failed ∙ ap count_after left.calm;
  };
  calm = tt;
  failed = puts.failed;
  all = tt;
  part = prefix_behind a.written b.written c.written left.taken piece more whole left.all puts.part (ap (λ (xs : List ℕ). left.taken ++ xs) (sym is) ∙ left.is);
}

-- the last piece
pub goes_last : {T E : Type 0} (a b c : SinkState) (piece whole : List ℕ) (r : Result T E) → IsLeft a b piece whole → Puts b c piece r → Puts a c whole r
goes_last a b c piece whole (Ok x) left puts = none_left a c whole x (less_left a b c piece [] piece whole x left (sym (append-nil piece)) puts)
goes_last a b c piece whole (Err e) left puts = stops_there a b c piece [] piece whole e e left (sym (append-nil piece)) puts

-- ---- what is answered beside

pub puts_ok : {T U E F : Type 0} (a b : SinkState) (text whole : List ℕ) (x : T) (y : U) → text ≡ whole → Puts {T = T} {E = E} a b text (Ok x) → Puts {T = U} {E = F} a b whole (Ok y)
puts_ok a b text whole x y e puts = record {
  cause = record { later = puts.cause.later; failed = tt };
  calm = puts.calm;
  failed = tt;
  all = subst (λ (xs : List ℕ). Takes a.written b.written xs) e puts.all;
  part = tt;
}

pub puts_err : {T U E F : Type 0} (a b : SinkState) (text whole : List ℕ) (e : E) (f : F) → text ≡ whole → Puts {T = T} {E = E} a b text (Err e) → Puts {T = U} {E = F} a b whole (Err f)
puts_err a b text whole e f is puts = record {
  cause = record { later = puts.cause.later; failed = puts.cause.failed };
  calm = tt;
  failed = puts.failed;
  all = tt;
  part = subst (λ (xs : List ℕ). TakesPrefix a.written b.written xs) is puts.part;
}

pub puts_failed : {T U E F : Type 0} (a b : SinkState) (text whole : List ℕ) (e : E) (r : Result U F) → IsErr r → text ≡ whole → Puts {T = T} {E = E} a b text (Err e) → Puts a b whole r
puts_failed a b text whole e (Ok y) failed is puts = absurd (cc)
puts_failed a b text whole e (Err f) failed is puts = puts_err a b text whole e f is puts

-- ---- two pieces

pub puts_then : {T U E F : Type 0} (a b c : SinkState) (first second whole : List ℕ) (x : T) (r : Result U F) → first ++ second ≡ whole → Puts {T = T} {E = E} a b first (Ok x) → Puts b c second r → Puts a c whole r
puts_then a b c first second whole x r e one two =
    goes_last a b c second whole r (less_left a a b first second whole whole x (all_left a whole) (sym e) one) two
