-- The patterns of a netlist are those of the entries.
use Rattle.std.proofs.Common.{◌≡◌, ◌≢◌, ℕ, suc, ◌^◌, ◌<◌, ◌==◌, ◌&&◌, Bool, true, false, List, [], ◌∷◌, ◌++◌, Option, None, Some, slice_get, refl, sym, ap, subst, ◌∙◌, arith}
use Rattle.std.specs.List.{AllByRecursion, Contains}
use borrow.Author.Tests.{eqb-true}
use Rattle.bit_bdd.specs.Diagrams.{Diagrams, has_word}
use Rattle.net_model.specs.declared.hardware.Netlist.{Netlist}
use Rattle.net_model.specs.CheckedRules.{KeepsRules}
use Rattle.net_model.proofs.WordWidths.{clean_below}
use Rattle.net_model.specs.Nets.{code_bits}
use Rattle.net_model.specs.Patterns.{Pattern, IsPattern, IsWordOf}
use Rattle.net_model.specs.Exprs.{TransferModel, keep, write, write_at}
use Rattle.net_model.specs.Transfers.{transfer_at}
use Rattle.sym_expr.specs.declared.pool.Node.{Node}
use Rattle.transfer_set.specs.declared.entries.Entry.{Entry}
use Rattle.transfer_set.specs.Entries.{ids_transfer}
use Rattle.transfer_set.specs.Inner.Entries.{HaveWords, AreWhole, entry_transfer, list_if, transfers_under, pattern_of, patterns_of}
use Rattle.transfer_set.specs.Inner.Sources.{changes}

pub never : (pool : List Node) (addr : Option ℕ) (value : ℕ) → ids_transfer pool addr value ≢ keep
never pool None value e = absurd (cc)
never pool (Some addr) value e = absurd (cc)

pub each_is : (netlist : Netlist) (book : Diagrams) (pool : List Node) (entries : List Entry) → HaveWords book entries → AreWhole netlist pool book entries → AllByRecursion (IsPattern netlist) (patterns_of pool entries)
each_is netlist book pool [] h w = tt
each_is netlist book pool (x ∷ entries) h w =
    (record { changes = never pool x.addr x.value; word = h.0.word; given = (w.0 h.0.word h.0.fits).0 h.0.holds }, each_is netlist book pool entries h.1 w.1)

changes_one : (m : TransferModel) → m ≢ keep → changes m ≡ m ∷ []
changes_one keep n = absurd (n refl)
changes_one (write e) n = refl
changes_one (write_at a e) n = refl

-- a transfer that is held is that of an entry
found : (book : Diagrams) (pool : List Node) (id word : ℕ) (m : TransferModel) (entries : List Entry) → transfers_under book pool entries id word ≡ m ∷ [] → Contains (patterns_of pool entries) (record { storage = id; move = m })
found book pool id word m [] e = absurd (cc)
found book pool id word m (x ∷ entries) e = by (x.storage == id) (has_word book x.set word) refl (found book pool id word m entries) e
  where
    by : (k b : Bool) → (x.storage == id) ≡ k → (transfers_under book pool entries id word ≡ m ∷ [] → Contains (patterns_of pool entries) (record { storage = id; move = m }))
        → list_if (k && b) (entry_transfer pool x ∷ []) ++ transfers_under book pool entries id word ≡ m ∷ [] → Contains (patterns_of pool (x ∷ entries)) (record { storage = id; move = m })
    by true true ek rest q =
        let s : x.storage ≡ id = eqb-true x.storage id ek in
        let f : entry_transfer pool x ≡ m = cc in
        let g : pattern_of pool x ≡ record { storage = id; move = m } = (λ j. record { storage = s j; move = f j }) in
        (0, omega arith, g)
    by true false ek rest q = (let r = rest q in (suc r.0, omega (arith, r.1), r.2))
    by false b ek rest q = (let r = rest q in (suc r.0, omega (arith, r.1), r.2))

pub every_is : (netlist : Netlist) (order : List ℕ) → KeepsRules netlist order → (old book : Diagrams) (pool : List Node) (legal : ℕ) (entries : List Entry) → old.bits ≡ code_bits (slice_get netlist.codes 0)
    → ((pattern : Pattern) → (i : ℕ) → i < 2 ^ old.bits → IsWordOf netlist pattern i → has_word old legal i ≡ true)
    → ((n word : ℕ) → word < 2 ^ old.bits → transfers_under book pool entries n word ≡ list_if (has_word old legal word) (changes (transfer_at netlist word n)))
    → (pattern : Pattern) → IsPattern netlist pattern → Contains (patterns_of pool entries) pattern
every_is netlist order kept old book pool legal entries bits is_legal moves pattern is =
    let low : is.word < 2 ^ code_bits (slice_get netlist.codes 0) = clean_below netlist order kept is.word is.given.clean in
    let fits : is.word < 2 ^ old.bits = subst (λ b. is.word < 2 ^ b) (sym bits) low in
    let l = is_legal pattern is.word fits is.given in
    found book pool pattern.storage is.word pattern.move entries
    (moves pattern.storage is.word fits ∙ ap (λ b. list_if b (changes (transfer_at netlist is.word pattern.storage))) l ∙ ap changes is.given.gives ∙ changes_one pattern.move is.changes)
