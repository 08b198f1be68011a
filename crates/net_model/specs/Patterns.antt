-- The patterns of a netlist: what its instruction words do, each with the words that do it.
use Rattle.std.specs.Prelude.{ℕ, ◌≡◌, ◌≢◌, ◌<◌, ◌⊎◌, List, [], ◌∷◌, All, AllPairs, Contains}
use Rattle.net_model.specs.declared.hardware.Netlist.{Netlist}
use Rattle.net_model.specs.Exprs.{TransferModel, keep}
use Rattle.net_model.specs.Transfers.{IsClean, transfer_at}
use Rattle.net_model.specs.Texts.{text_of_transfer}

-- a storage with a transfer
pub record Pattern : Type 0 where
  pub storage : ℕ
  pub move : TransferModel

-- the word is one of the pattern's set: it doesn't clash, and gives the storage this transfer
pub record IsWordOf (netlist : Netlist) (pattern : Pattern) (i : ℕ) : Type 0 where
  pub clean : IsClean netlist i
  pub gives : transfer_at netlist i pattern.storage ≡ pattern.move

-- a pattern of the netlist: a transfer other than to keep, which some word gives
pub record IsPattern (netlist : Netlist) (pattern : Pattern) : Type 0 where
  pub changes : pattern.move ≢ keep
  pub word : ℕ
  pub given : IsWordOf netlist pattern word

-- texts in the order of their bytes, a shorter one before a longer one that begins with it
abbrev pub IsTextBefore : List ℕ → List ℕ → Type 0
IsTextBefore [] [] = ⊥
IsTextBefore [] (y ∷ ys) = Unit {0}
IsTextBefore (x ∷ xs) [] = ⊥
IsTextBefore (x ∷ xs) (y ∷ ys) = (x < y) ⊎ ((x ≡ y) × IsTextBefore xs ys)

-- the order of patterns: by storage, and then by the text of the transfer
abbrev pub IsPatternBefore : Netlist → Pattern → Pattern → Type 0
IsPatternBefore netlist p q =
    (p.storage < q.storage)
    ⊎ ((p.storage ≡ q.storage) × IsTextBefore (text_of_transfer netlist p.storage p.move) (text_of_transfer netlist q.storage q.move))

-- all patterns of the netlist in their order; a pattern's number is its place
pub record ArePatterns (netlist : Netlist) (patterns : List Pattern) : Type 0 where
  pub each : All (IsPattern netlist) patterns
  pub every : (pattern : Pattern) → IsPattern netlist pattern → Contains patterns pattern
  pub ordered : AllPairs (IsPatternBefore netlist) patterns
