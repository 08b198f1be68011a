-- States of a small processor, what fits them, and how cells of them are read and written.
use Rattle.std.proofs.Common.{ℕ, zero, suc, ◌≡◌, ◌<◌, ◌^◌, Bool, true, false, List, [], ◌∷◌, length, refl, ◌∙◌, ap, arith, slice_get, slice_index, slice_set}
use Rattle.std.proofs.lemmas.List.{length-set}
use Rattle.rec_bits.specs.Operators.{bit_of}
use Rattle.net_model.specs.declared.hardware.Space.{Space}
use Rattle.net_model.specs.declared.hardware.Space.TheVariants.{Memory as InMemory, File as InFile}
use Rattle.net_model.specs.declared.states.State.{State}
use Rattle.net_model.specs.Nets.{held, size_in, storage_bits, width_in}
use Rattle.net_model.specs.Worked.{a16}
use Rattle.code_model.specs.Machine.{IsCalm}
use Rattle.follow.proofs.WorkedClocks.{at}

pub set_same : (a v : ℕ) (cells : List ℕ) → a < length cells → slice_index (slice_set cells a v) a ≡ v
set_same a v [] lt = absurd (omega arith)
set_same zero v (x ∷ cells) lt = refl
set_same (suc a) v (x ∷ cells) lt = set_same a v cells (omega arith)

pub set_fits : (bound a v k : ℕ) (cells : List ℕ) → v < bound → slice_index cells k < bound → slice_index (slice_set cells a v) k < bound
set_fits bound a v k [] lt h = h
set_fits bound zero v zero (x ∷ cells) lt h = lt
set_fits bound zero v (suc k) (x ∷ cells) lt h = h
set_fits bound (suc a) v zero (x ∷ cells) lt h = h
set_fits bound (suc a) v (suc k) (x ∷ cells) lt h = set_fits bound a v k cells lt h

pub zero_kept : (v : ℕ) (cells : List ℕ) → slice_index (slice_set cells 3 v) 0 ≡ slice_index cells 0
zero_kept v [] = refl
zero_kept v (x ∷ cells) = refl

pub three_kept : (v : ℕ) (cells : List ℕ) → slice_index (slice_set cells 0 v) 3 ≡ slice_index cells 3
three_kept v [] = refl
three_kept v (x ∷ cells) = refl

-- what a state has beside its program counter
pub record Fits (acc none : ℕ) (cells file : List ℕ) : Type 0 where
  pub acc_fits : acc < 65536
  pub none_fits : none < 65536
  pub long : length cells ≡ 256
  pub words : (k : ℕ) → slice_index cells k < 65536
  pub file_long : length file ≡ 0
  pub file_words : (k : ℕ) → slice_index file k < 1

module _ (acc none : ℕ) (cells file : List ℕ) where
  pub fits_in : (address : ℕ) → IsCalm a16 address (at acc none cells file address) → Fits acc none cells file
  fits_in address h = record {
    acc_fits = h.here.state.fits.regs 1;
    none_fits = h.here.state.fits.regs 2;
    long = h.here.state.cells InMemory;
    words = λ k. h.here.state.fits.cells InMemory k;
    file_long = h.here.state.cells InFile;
    file_words = λ k. h.here.state.fits.cells InFile k;
  }

  pub calm_at : (address : ℕ) → address < 256 → Fits acc none cells file → IsCalm a16 address (at acc none cells file address)
  calm_at address lt f = record {
    here = record {
      state = record {
        regs = refl;
        cells = λ space. by_space space;
        fits = record { regs = λ id. by_id id; cells = λ space k. by_cell space k };
      };
      counter = refl;
    };
    mode = refl;
  }
    where
      by_space : (space : Space) → length (held (at acc none cells file address) space) ≡ size_in space a16.storages
      by_space InMemory = f.long
      by_space InFile = f.file_long

      by_id : (id : ℕ) → slice_index (address ∷ acc ∷ none ∷ []) id < 2 ^ storage_bits (slice_get a16.storages id)
      by_id zero = lt
      by_id (suc zero) = f.acc_fits
      by_id (suc (suc zero)) = f.none_fits
      by_id (suc (suc (suc id))) = omega arith

      by_cell : (space : Space) (k : ℕ) → slice_index (held (at acc none cells file address) space) k < 2 ^ width_in space a16.storages
      by_cell InMemory k = f.words k
      by_cell InFile k = f.file_words k

  pub with_acc : (v : ℕ) → v < 65536 → Fits acc none cells file → Fits v none cells file
  with_acc v lt f = record { acc_fits = lt; none_fits = f.none_fits; long = f.long; words = f.words; file_long = f.file_long; file_words = f.file_words }

  pub with_cell : (a v : ℕ) → v < 65536 → Fits acc none cells file → Fits acc none (slice_set cells a v) file
  with_cell a v lt f = record {
    acc_fits = f.acc_fits;
    none_fits = f.none_fits;
    long = length-set cells a v ∙ f.long;
    words = λ k. set_fits 65536 a v k cells lt (f.words k);
    file_long = f.file_long;
    file_words = f.file_words;
  }

-- ---- any state

pub record Parts (address : ℕ) (s : State) : Type 0 where
  pub acc : ℕ
  pub none : ℕ
  pub is : s ≡ at acc none s.cells s.file address

pub three : (xs : List ℕ) (address : ℕ) → length xs ≡ 3 → slice_index xs 0 ≡ address → (acc : ℕ) × (none : ℕ) × (xs ≡ address ∷ acc ∷ none ∷ [])
three [] address e f = absurd (omega arith)
three (x ∷ []) address e f = absurd (omega arith)
three (x ∷ y ∷ []) address e f = absurd (omega arith)
three (x ∷ y ∷ z ∷ []) address e f = (y, z, ap (λ w. w ∷ y ∷ z ∷ []) f)
three (x ∷ y ∷ z ∷ w ∷ xs) address e f = absurd (omega arith)

pub parts : (address : ℕ) (s : State) → IsCalm a16 address s → Parts address s
parts address s h =
    let t = three s.regs address h.here.state.regs h.here.counter in
    record { acc = t.0; none = t.1; is = ap (λ regs. record { regs = regs; cells = s.cells; file = s.file }) t.2 }

-- ---- answers

pub bit_true : (b : Bool) → bit_of b ≡ 1 → b ≡ true
bit_true true e = refl
bit_true false e = absurd (omega (arith, e))

pub bit_false : (b : Bool) → bit_of b ≡ 0 → b ≡ false
bit_false true e = absurd (omega (arith, e))
bit_false false e = refl
