-- Transfers with sets of words that give them, as they are collected.
use Rattle.std.specs.Prelude.{◌≡◌, ℕ, ◌<◌, ◌==◌, ◌&&◌, not, Bool, true, false, if◌then◌else◌, List, [], ◌∷◌, ◌++◌, map, length, Some, slice_get, slice_index}
use Rattle.std.specs.List.{AllByRecursion}
use Rattle.bit_bdd.specs.Diagrams.{Diagrams, has_word}
use Rattle.net_model.specs.declared.hardware.Netlist.{Netlist}
use Rattle.net_model.specs.Patterns.{Pattern}
use Rattle.net_model.specs.Exprs.{ExprModel, TransferModel, write, write_at}
use Rattle.net_model.specs.Transfers.{same_reg}
use Rattle.sym_expr.specs.declared.pool.Node.{Node}
use Rattle.sym_expr.specs.Pools.{expr_of_id}
use Rattle.transfer_set.specs.declared.entries.Entry.{Entry}
use Rattle.transfer_set.specs.declared.route.Route.{Route}
use Rattle.transfer_set.specs.Routes.{IsSet}
use Rattle.transfer_set.specs.Entries.{ids_transfer, IsAddrKnown, IsWordsOf}

-- ---- lists

-- a list, or nothing
abbrev pub list_if : {X : Type 0} → Bool → List X → List X
list_if b xs = if b then xs else []

-- what f makes of each, one after the other
abbrev pub each : {X Y : Type 0} → (X → List Y) → List X → List Y
each f [] = []
each f (x ∷ xs) = f x ++ each f xs

-- ---- entries

abbrev pub entry_transfer : List Node → Entry → TransferModel
entry_transfer pool entry = ids_transfer pool entry.addr entry.value

-- the pattern that an entry tells of
abbrev pub pattern_of : List Node → Entry → Pattern
pattern_of pool entry = record { storage = entry.storage; move = entry_transfer pool entry }

abbrev pub patterns_of : List Node → List Entry → List Pattern
patterns_of pool entries = map (pattern_of pool) entries

-- the transfers of a storage whose sets hold a word
abbrev pub transfers_under : Diagrams → List Node → List Entry → ℕ → ℕ → List TransferModel
transfers_under book pool [] id word = []
transfers_under book pool (entry ∷ entries) id word =
    list_if ((entry.storage == id) && has_word book entry.set word) (entry_transfer pool entry ∷ [])
    ++ transfers_under book pool entries id word

-- each set holds a word
abbrev pub HaveWords : Diagrams → List Entry → Type 0
HaveWords book entries = AllByRecursion (λ (entry : Entry). IsSet book entry.set) entries

abbrev pub AreKnown : ℕ → List Entry → Type 0
AreKnown size entries = AllByRecursion (λ (entry : Entry). IsAddrKnown size entry.addr × (entry.value < size)) entries

-- ---- whole sets

-- the set of each entry is all words that give its storage its transfer
abbrev pub AreWhole : Netlist → List Node → Diagrams → List Entry → Type 0
AreWhole netlist pool book entries =
    AllByRecursion (λ (entry : Entry). IsWordsOf netlist book.bits entry.storage
    (entry_transfer pool entry) (λ word. has_word book entry.set word)) entries

-- ---- what feeds a storage

-- a register takes an expression, unless it is the register itself
abbrev pub register_transfers : ℕ → ExprModel → List TransferModel
register_transfers id t = if same_reg t id then [] else write t ∷ []

-- a memory takes an expression at an address
abbrev pub memory_transfers : ExprModel → ExprModel → List TransferModel
memory_transfers a t = write_at a t ∷ []

-- where a register is on, the words of each route are all words that give the register its
-- expression
abbrev pub AreWrites : Netlist → List Node → Diagrams → ℕ → ℕ → List Route → Type 0
AreWrites netlist pool book storage on routes =
    (place : ℕ) (route : Route) → slice_get routes place ≡ Some route →
    same_reg (expr_of_id pool route.expr) storage ≡ false →
    IsWordsOf netlist book.bits storage (write (expr_of_id pool route.expr))
    (λ word. has_word book on word && has_word book route.set word)

-- and so for a memory at one address
abbrev pub AreValues : Netlist → List Node → Diagrams → ℕ → ℕ → ℕ → List Route → Type 0
AreValues netlist pool book storage addr on values =
    (place : ℕ) (value : Route) → slice_get values place ≡ Some value →
    IsWordsOf netlist book.bits storage (write_at (expr_of_id pool addr) (expr_of_id pool value.expr))
    (λ word. has_word book on word && has_word book value.set word)

-- and at each address
abbrev pub ArePairs : Netlist → List Node → Diagrams → ℕ → ℕ → List Route → List Route → Type 0
ArePairs netlist pool book storage on addrs values =
    (place : ℕ) (addr : Route) → slice_get addrs place ≡ Some addr → (at : ℕ) (value : Route) →
    slice_get values at ≡ Some value →
    IsWordsOf netlist book.bits storage
    (write_at (expr_of_id pool addr.expr) (expr_of_id pool value.expr))
    (λ word. (has_word book on word && has_word book addr.set word) && has_word book value.set word)

-- ---- words that keep

-- no set of the storage's transfers holds the word
abbrev pub keeps_all : Diagrams → List Entry → ℕ → ℕ → Bool
keeps_all book [] storage word = true
keeps_all book (entry ∷ entries) storage word =
    not ((entry.storage == storage) && has_word book entry.set word)
    && keeps_all book entries storage word

-- a set for each storage, of those words that are in the set of no transfer of it
pub record AreLeft (old new : Diagrams) (legal : ℕ) (entries : List Entry) (count : ℕ) (sets : List ℕ) : Type 0 where
  pub long : length sets ≡ count
  pub within : (storage : ℕ) → storage < count → slice_index sets storage < length new.nodes
  pub words : (storage word : ℕ) → storage < count →
      has_word new (slice_index sets storage) word ≡ (has_word old legal word && keeps_all old entries storage word)
