-- Transfers that step, and the words that give them.
use Rattle.std.specs.Prelude.{ℕ, ◌==◌, ◌&&◌, ◌||◌, Bool, false, List, [], ◌∷◌}
use Rattle.bit_bdd.specs.Diagrams.{Diagrams, has_word}
use Rattle.net_model.specs.Exprs.{TransferModel, keep, write, write_at}
use Rattle.sym_expr.specs.declared.pool.Node.{Node}
use Rattle.transfer_set.specs.Inner.Entries.{entry_transfer}
use Rattle.transfer_set.specs.declared.entries.Entry.{Entry}
use Rattle.transfer_set.specs.declared.stepping.Counter.{Counter}
use Rattle.transfer_set.specs.Stepping.{is_next}

-- a transfer to the register plus 1
abbrev pub transfer_steps : Counter → TransferModel → Bool
transfer_steps counter keep = false
transfer_steps counter (write e) = is_next counter e
transfer_steps counter (write_at a e) = false

-- the transfer is the register's, and steps it
abbrev pub entry_steps : List Node → Counter → Entry → Bool
entry_steps pool counter entry = (entry.storage == counter.storage) && transfer_steps counter (entry_transfer pool entry)

-- a transfer that steps has the word
abbrev pub any_step : Diagrams → List Node → Counter → List Entry → ℕ → Bool
any_step book pool counter [] i = false
any_step book pool counter (entry ∷ entries) i =
    (entry_steps pool counter entry && has_word book entry.set i)
    || any_step book pool counter entries i
