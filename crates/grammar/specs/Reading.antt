-- Grammars as relations between texts and values, and what a parser owes of them. Relations of a
-- list of tokens to a value, put together from a few: one token, one part after another, a choice
-- by the first token, a part that may be missing, a list. A *fault* is a place such that the
-- tokens before it begin some text and with the one at it they don't.
use Rattle.std.specs.Prelude.{◌≡◌, ℕ, ◌≤◌, List, [], ◌∷◌, ◌++◌, length, Bool, false, Option, Some, None, Result, Ok, Err}
use Rattle.grammar.specs.declared.stop.ParseStop.{ParseStop}
use Rattle.grammar.specs.declared.stop.ParseStop.TheVariants.{At, Memory}

-- ---- grammars

-- no token, and this value
pub record Return {T V : Type 0} (v : V) (ts : List T) (w : V) : Type 0 where
  pub empty : ts ≡ []
  pub same : w ≡ v

-- one token that has this value
pub record Token {T V : Type 0} (has : T → V → Type 0) (ts : List T) (v : V) : Type 0 where
  pub token : T
  pub parts : ts ≡ token ∷ []
  pub is : has token v

-- a text of A, and behind it a text of B, which may depend on the first text and its value
pub record Bind {T V W : Type 0} (A : List T → V → Type 0) (B : List T → V → List T → W → Type 0)
    (ts : List T) (w : W) : Type 0 where
  pub front : List T
  pub back : List T
  pub value : V
  pub parts : ts ≡ front ++ back
  pub first : A front value
  pub second : B front value back w

infixl 10 ◌>>=◌
abbrev pub ◌>>=◌ : {T V W : Type 0} → (List T → V → Type 0) → (V → List T → W → Type 0) → List T → W → Type 0
A >>= B = Bind A (λ _ a. B a)

-- a text of R, with what is made of its value
pub record Made {T V W : Type 0} (make : V → W) (R : List T → V → Type 0) (ts : List T) (w : W) : Type 0 where
  pub value : V
  pub first : R ts value
  pub made : w ≡ make value

-- at most so many tokens
pub record Within {T V : Type 0} (room : ℕ) (R : List T → V → Type 0) (ts : List T) (v : V) : Type 0 where
  pub text : R ts v
  pub fits : length ts ≤ room

-- [ X ]
pub data Maybe {T V : Type 0} (X : List T → V → Type 0) (ts : List T) (v : Option V) : Type 0 where
  without : ts ≡ [] → v ≡ None → Maybe X ts v
  with_one : (a : V) → X ts a → v ≡ Some a → Maybe X ts v

-- { X }, with what the values are added up to
pub data Many {T V W : Type 0} (X : List T → V → Type 0) (last : W) (add : V → W → W) : List T → W → Type 0 where
  none : Many X last add [] last
  some : {us : List T} {b : V} {zs : List T} {w : W} → X us b → Many X last add zs w →
      Many X last add (us ++ zs) (add b w)

-- { X }
abbrev pub ListOf : {T V : Type 0} → (List T → V → Type 0) → List T → List V → Type 0
ListOf X = Many X [] (λ v vs. v ∷ vs)

-- { op X } behind a value, grouped to the left
pub data Tail {T V O : Type 0} (X : List T → V → Type 0) (op : T → Option O) (join : V → O → V → V)
    : V → List T → V → Type 0 where
  done : {a : V} → Tail X op join a [] a
  step : {a : V} {t : T} {o : O} {us : List T} {b : V} {zs : List T} {v : V} → op t ≡ Some o →
      X us b → Tail X op join (join a o b) zs v → Tail X op join a (t ∷ (us ++ zs)) v

-- X { op X }
abbrev pub Chain : {T V O : Type 0} → (List T → V → Type 0) → (T → Option O) → (V → O → V → V) → List T → V → Type 0
Chain X op join = Bind X (λ _ a. Tail X op join a)

-- ---- parsers

abbrev pub head : {T : Type 0} → List T → Option T
head [] = None
head (t ∷ ts) = Some t

-- what follows does not begin with a token that may go on
abbrev pub Stops : {T : Type 0} → (T → Bool) → List T → Type 0
Stops more [] = Unit {0}
Stops more (t ∷ ts) = more t ≡ false

abbrev pub never : {T : Type 0} → T → Bool
never t = false

-- all begins with front and the first token of rest, or is front where rest is empty
pub record Agrees {T : Type 0} (all front rest : List T) : Type 0 where
  pub tail : List T
  pub parts : all ≡ front ++ tail
  pub same : head tail ≡ head rest

-- v is read from the front of ts, and rest is left. No other text and no other value can be read
-- there, whatever stands behind the first token of rest. The tokens that may go on behind a text of
-- R are among more.
pub record Reads {T V : Type 0} (R : List T → V → Type 0) (more : T → Bool) (ts : List T) (v : V)
    (rest : List T) : Type 0 where
  pub used : List T
  pub parts : ts ≡ used ++ rest
  pub is : R used v
  pub only : (x : List T) (w : V) (c : List T) → R x w → Stops more c → Agrees (x ++ c) used rest → (x ≡ used) × (w ≡ v)

-- With left tokens to go: those before begin a text of R, and with the next one they do not.
pub record Fails {T V : Type 0} (R : List T → V → Type 0) (more : T → Bool) (ts : List T) (left : ℕ) : Type 0 where
  pub used : List T
  pub rest : List T
  pub parts : ts ≡ used ++ rest
  pub left_is : length rest ≡ left
  pub end : List T
  pub value : V
  pub begins : R (used ++ end) value
  pub none : (x : List T) (w : V) (c : List T) → R x w → Stops more c → Agrees (x ++ c) used rest → ⊥

-- the same of a parser's answer, which says nothing where memory ran out
pub record FailsAs {T V : Type 0} (R : List T → V → Type 0) (more : T → Bool) (ts : List T) (stop : ParseStop) : Type 0 where
  pub fails : (left : ℕ) → stop ≡ At left → Fails R more ts left

-- what a parser returned, seen by see as a value and what is left, is what is to be read in ts
abbrev pub Gives : {T V X : Type 0} → (X → V × List T) → (List T → V → Type 0) → (T → Bool) →
    List T → Result X ParseStop → Type 0
Gives see R more ts (Ok x) = Reads R more ts (see x).0 (see x).1
Gives see R more ts (Err stop) = FailsAs R more ts stop

-- What R reads in ts tells what S reads in us, with what is made of the value; and where R fails
-- there, S does here.
pub record Leads {T V W : Type 0} (make : V → W) (R : List T → V → Type 0) (more : T → Bool)
    (ts : List T) (S : List T → W → Type 0) (more_s : T → Bool) (us : List T) : Type 0 where
  pub reads : (v : V) (rest : List T) → Reads R more ts v rest → Reads S more_s us (make v) rest
  pub fails : (left : ℕ) → Fails R more ts left → Fails S more_s us left

-- ---- whole texts

-- the tokens begin some text
pub record Begins {T V : Type 0} (R : List T → V → Type 0) (ts : List T) : Type 0 where
  pub end : List T
  pub value : V
  pub text : R (ts ++ end) value

-- The tokens in front begin some text, and with the first one of rest they do not; where rest is
-- empty, the tokens are no text.
pub record IsFault {T V : Type 0} (R : List T → V → Type 0) (ts rest : List T) : Type 0 where
  pub front : List T
  pub parts : ts ≡ front ++ rest
  pub begins : Begins R front
  pub next : (t : T) → head rest ≡ Some t → Begins R (front ++ t ∷ []) → ⊥
  pub whole : rest ≡ [] → (v : V) → R ts v → ⊥

-- the same, with left tokens to go
pub record IsFaultLeft {T V : Type 0} (R : List T → V → Type 0) (ts : List T) (left : ℕ) : Type 0 where
  pub rest : List T
  pub fault : IsFault R ts rest
  pub left_is : length rest ≡ left

-- why a whole text was not read; nothing is said where memory ran out
abbrev pub IsStop : {T V : Type 0} → (List T → V → Type 0) → List T → ParseStop → Type 0
IsStop R ts (At left) = IsFaultLeft R ts left
IsStop R ts Memory = Unit {0}
