-- What the rules of an image ask of its memory and of its last word.
use Rattle.std.proofs.Common.{◌≡◌, ℕ, zero, suc, ◌+◌, ◌-◌, ◌<◌, ◌≤◌, ◌^◌, List, [], ◌∷◌, map, length, Some, option_map, ap, subst, ◌∙◌, arith, get_or, slice_get, slice_index}
use Rattle.std.specs.List.{AllByRecursion}
use Rattle.std.proofs.lemmas.List.{length-map}
use Rattle.std.proofs.lemmas.Option.{get_or_from_slice_get, slice_get-get_or, slice_get-map, slice_get_within}
use Rattle.rec_bits.proofs.Options.{same_Some}
use Rattle.net_model.specs.declared.hardware.Netlist.{Netlist}
use Rattle.net_model.specs.declared.hardware.Space.TheVariants.{Memory as InMemory}
use Rattle.net_model.specs.declared.hardware.Storage.{Storage}
use Rattle.net_model.specs.declared.hardware.Storage.TheVariants.{Register, Memory, File}
use Rattle.net_model.specs.CheckedRules.{KeepsRules, StorageKeeps, memory_addr_width, memory_count}
use Rattle.net_model.specs.Nets.{addr_width_in, memory_size, memory_width}
use Rattle.net_model.specs.Widths.{WordFits}
use Rattle.net_model.proofs.Memories.{few_sizes}
use Rattle.src_model.specs.declared.program.Var.{Var as Declared}
use Rattle.code_model.specs.declared.image.Image.{Image}
use Rattle.code_model.specs.declared.image.Word.{Word}
use Rattle.code_model.specs.ImageFits.{IsFitting, limits_of}
use Rattle.code_model.specs.Places.{words_of}
use Rattle.src_trees.specs.Held.{HoldsVars, LieWithin}
use Rattle.followed.proofs.Laying.{words_fit}
use Rattle.check_command.proofs.PlaceLemmas.{places_hold, places_lie}
use Rattle.check_command.specs.EndWords.{IsEndWord}
use Rattle.check_command.specs.Places.{ArePlacesRight}
use Rattle.check_command.specs.Rules.{EndsPlainly}

-- ---- places

-- addresses of the data memory have some bits
some_addresses : (netlist : Netlist) (storages : List Storage) → AllByRecursion (StorageKeeps netlist) storages → memory_count storages ≡ 1 → 1 ≤ memory_addr_width storages
some_addresses netlist [] h e = absurd (omega (arith, e))
some_addresses netlist (Register name width input when ∷ storages) h e = some_addresses netlist storages h.1 (omega (arith, e))
some_addresses netlist (Memory cells ∷ storages) h e = h.0.1.0
some_addresses netlist (File cells ∷ storages) h e = some_addresses netlist storages h.1 (omega (arith, e))

module _ (netlist : Netlist) (order : List ℕ) (keeps : KeepsRules netlist order) (vars : List Declared) (image : Image) (right : ArePlacesRight vars image (memory_size netlist.storages)) where
  pub vars_held : (width : ℕ) → memory_width netlist.storages ≡ width → HoldsVars image.temps vars (record { word = width; addr = addr_width_in InMemory netlist.storages; places = image.places })
  vars_held width wide =
      let narrow = keeps.roles.address in
      places_hold vars image (memory_size netlist.storages) right width (addr_width_in InMemory netlist.storages) (some_addresses netlist netlist.storages keeps.formed.storages keeps.roles.memory)
      (omega (arith, narrow, wide)) keeps.roles.sizes.1.1

  pub places_few : LieWithin image.temps (2 ^ 32) image.places
  places_few = let few = few_sizes netlist order keeps InMemory in places_lie vars image (memory_size netlist.storages) right (2 ^ 32) (omega (arith, few))

-- ---- the last word

fits_at : (netlist : Netlist) (words : List Word) → AllByRecursion (WordFits netlist) (map (λ (word : Word). word.word) words) → (k : ℕ) (word : Word) → slice_get words k ≡ Some word
    → WordFits netlist word.word
fits_at netlist [] h k word e = absurd (let inside = slice_get_within [] k word e in omega (arith, inside))
fits_at netlist (w ∷ words) h zero word e = subst (λ (x : Word). WordFits netlist x.word) (same_Some w word e) h.0
fits_at netlist (w ∷ words) h (suc k) word e = fits_at netlist words h.1 k word e

pub word_fits : (netlist : Netlist) (order : List ℕ) → KeepsRules netlist order → (image : Image) → IsFitting (limits_of netlist) image → (k : ℕ) (word : Word) → slice_get image.words k ≡ Some word
    → WordFits netlist word.word
word_fits netlist order keeps image fits k word e = fits_at netlist image.words (words_fit netlist order keeps image.words fits.words) k word e

-- the last of some words, as it is found by its number
pub last_there : (words all : List Word) (other : Word) → 0 < length words → words ≡ all → slice_get all (length words - 1) ≡ Some (get_or words (length words - 1) other)
last_there words all other some same =
    subst (λ (ws : List Word). slice_get ws (length words - 1) ≡ Some (get_or words (length words - 1) other)) same
    (slice_get-get_or words (length words - 1) other (omega (arith, some)))

module _ (netlist : Netlist) (image : Image) (last : ℕ) (word : Word) (there : slice_get image.words last ≡ Some word) (long : length image.words ≡ last + 1) where
  same_word : slice_index (words_of image) last ≡ word.word
  same_word =
      get_or_from_slice_get (words_of image) last word.word 0
      (slice_get-map (λ (w : Word). w.word) image.words last ∙ ap (option_map (λ (w : Word). w.word)) there)

  same_length : length (words_of image) ≡ last + 1
  same_length = length-map image.words (λ (w : Word). w.word) ∙ long

  pub plainly_ends : IsEndWord netlist word.word last → EndsPlainly netlist image
  plainly_ends h = record { last = last; long = same_length; ends = rw same_word h }

  pub ends_last : EndsPlainly netlist image → IsEndWord netlist word.word last
  ends_last h =
      let ends = h.long in
      let length = same_length in
      let same : h.last ≡ last = omega (arith, ends, length) in
      subst (λ (i : ℕ). IsEndWord netlist i last) same_word (subst (λ (k : ℕ). IsEndWord netlist (slice_index (words_of image) k) k) same h.ends)

pub never_ends : (netlist : Netlist) (image : Image) → length image.words ≡ 0 → EndsPlainly netlist image → ⊥
never_ends netlist image none h =
    let long = h.long in
    let same = length-map image.words (λ (w : Word). w.word) in
    omega (arith, long, same, none)
