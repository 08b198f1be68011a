-- What the parts of an expression give together.
use Rattle.std.proofs.Common.{ℕ, ◌≡◌, ◌+◌, List, [], ◌∷◌, ◌++◌, length, Option, Some, None, Bool, true, false, ◌==◌, if◌then◌else◌, refl, sym, ap, ◌∙◌, arith, append_assoc, IsSome, option_map, map, Result, Ok, Err, IfOk, Box}
use Rattle.std.specs.declared.vec.Vec.{Vec}
use Rattle.std.specs.declared.alloc.Global.{Global}
use Rattle.net_model.specs.declared.hardware.Net.{Net}
use Rattle.net_model.specs.declared.hardware.Gate.{Gate}
use Rattle.net_model.specs.declared.hardware.Gate.TheVariants as gate
use Rattle.grammar.specs.declared.words.Ident.{Ident}
use Rattle.net_model.specs.declared.units.NetExpr.{NetExpr, Case}
use Rattle.net_model.specs.Written.{NetExprModel, model_of_net_expr, model_of_case_row, case_rows_of, case_rest_of, other_of, read, case, CaseRowsModel, CaseRestModel, no_rest, rest}
use Rattle.net_model.specs.TextWidths.{wide, MemoryWidthsModel, memory_widths, read_width}
use Rattle.net_model.specs.Numbering.{count_rest, SiteModel, scope_at, memory_at}
use Rattle.net_model.specs.Elaborated.{width_or_none, net_of, plain_net, nets_of_rest, rest_out}
use Rattle.net_elab.specs.Inner.Emissions.{Pushed, Emitted, EmittedRows, EmittedRest}
use Rattle.net_elab.specs.Inner.Found.{IsCells, cell_width_of}
use Rattle.net_elab.specs.declared.site.NetRef.{NetRef}
use Rattle.net_elab.specs.declared.site.Readable.{Readable}
use Rattle.net_elab.specs.declared.expression.Pairs.{Pairs}
use Rattle.net_model.proofs.Cases.{Row, phrase_Case}
use Rattle.net_elab.proofs.Cases.{width_without, width_with}

pub if_ok_map : {A E : Type 0} {P Q : A → Type 0} → ((a : A) → P a → Q a) → (r : Result A E) → IfOk r P → IfOk r Q
if_ok_map f (Ok a) h = f a h
if_ok_map f (Err e) h = tt

-- ---- reads

pick : (b : Bool) (x cell : ℕ) → x ≡ cell → IsSome (if b then Some x else None) → (if b then Some x else None) ≡ Some cell
pick true x cell e h = ap Some e
pick false x cell e h = absurd (cc h)

read_is : (m : Option MemoryWidthsModel) (v : Option ℕ) (cell : ℕ) → option_map cell_width_of m ≡ Some cell → IsSome (read_width m v) → read_width m v ≡ Some cell
read_is None v cell e h = absurd (cc e)
read_is (Some m) None cell e h = absurd (cc h)
read_is (Some m) (Some a) cell e h = pick (m.address == a) m.cell cell (let k : m.cell ≡ cell = cc in k) h

-- an own net behind others
own_net : (site : SiteModel) (at : ℕ) (a : NetExprModel) (w : Option ℕ) (g : Gate) → wide (scope_at site) a ≡ w → plain_net at (width_or_none w) g ≡ net_of site at a g
own_net site at a w g e = ap (λ (o : Option ℕ). plain_net at (width_or_none o) g) (sym e)

pub read_end : (site : SiteModel) (at : ℕ) (name : Ident) (a : NetExprModel) (cells : Readable) (old mid new : List Net) (m made : NetRef)
    → IsCells (option_map cell_width_of (memory_widths (scope_at site) name.name)) (memory_at site name.name) cells
    → IsSome (wide (scope_at site) (read name a)) → Emitted site at a old mid m
    → Pushed (Some cells.width) at (gate.Read cells.memory m.net) mid new made → Emitted site at (read name a) old new made
read_end site at name a cells old mid new m made f h k q =
    let w : wide (scope_at site) (read name a) ≡ Some cells.width = read_is (memory_widths (scope_at site) name.name) (wide (scope_at site) a) cells.width f.width_is h in
    record {
      nets =
          q.nets ∙ ap (λ (x : Net). mid ++ x ∷ []) (own_net site at (read name a) (Some cells.width) _ w)
          ∙ rw (f.number_is, k.out, k.nets) (append_assoc old _ _);
      long = omega (arith, k.long, q.long);
      out = omega (arith, q.out, k.long);
      width_is = w ∙ q.width_is;
    }

-- ---- cases

pub case_seen : (e : NetExpr) (selector : Box NetExpr Global) (rows : Vec Row Global) (other : Option (Box NetExpr Global)) → e ≡ Case selector rows other
    → (x : NetExpr) → x ≡ selector.value → (rs : List Row) → rs ≡ rows.items → model_of_net_expr e ≡ case (model_of_net_expr x) (case_rows_of (map model_of_case_row rs)) (case_rest_of (other_of other))
case_seen e selector rows other is x ex rs er = ap model_of_net_expr is ∙ phrase_Case selector rows other ∙ rw (ex, er) refl

four_parts : (old a b c d : List Net) → old ++ a ++ b ++ c ++ d ≡ old ++ (a ++ b ++ c ++ d)
four_parts old a b c d = simp append_assoc

module _ (site : SiteModel) (at : ℕ) (old : List Net) (selector : NetExprModel) (rows : CaseRowsModel) (mid mid2 : List Net) (m : NetRef) (p : Pairs)
    (k : Emitted site at selector old mid m) (r : EmittedRows site at rows mid mid2 p) where
  case_end : (other : CaseRestModel) (mid3 new : List Net) (out : Option ℕ) (w : Option ℕ) (made : NetRef)
      → mid3 ≡ mid2 ++ nets_of_rest site at (length mid2) other → length mid3 ≡ length mid2 + count_rest other → out ≡ rest_out site (length mid2) other
      → wide (scope_at site) (case selector rows other) ≡ w → Pushed w at (gate.Case m.net p.rows out) mid3 new made
      → Emitted site at (case selector rows other) old new made
  case_end other mid3 new out w made n l o e q = record {
    nets =
        q.nets ∙ ap (λ (x : Net). mid3 ++ x ∷ []) (own_net site at (case selector rows other) w _ e)
        ∙ rw (o, n, r.long, r.pairs, r.nets, k.long, k.out, k.nets) (four_parts old _ _ _ _);
    long = omega (arith, q.long, l, r.long, k.long);
    out = omega (arith, q.out, l, r.long, k.long);
    width_is = e ∙ q.width_is;
  }

  pub case_none : (other : CaseRestModel) (mid3 new : List Net) (o : Option NetRef) (made : NetRef) → EmittedRest site at other mid2 mid3 o → o ≡ None
      → IsSome (wide (scope_at site) (case selector rows other)) → Pushed (Some p.width) at (gate.Case m.net p.rows None) mid3 new made
      → Emitted site at (case selector rows other) old new made
  case_none no_rest mid3 new o made t e h q =
      case_end no_rest mid3 new None (Some p.width) made t.nets t.long refl (width_without (scope_at site) selector rows h ∙ ap Some (sym r.width_is)) q
  case_none (rest a) mid3 new o made t e h q =
      absurd (let n : option_map (λ (spot : NetRef). spot.net) o ≡ None = ap (option_map (λ (spot : NetRef). spot.net)) e in let s = t.out in cc)

  pub case_some : (other : CaseRestModel) (mid3 new : List Net) (o : Option NetRef) (x made : NetRef) → EmittedRest site at other mid2 mid3 o → o ≡ Some x
      → IsSome (wide (scope_at site) (case selector rows other)) → Pushed (Some x.width) at (gate.Case m.net p.rows (Some x.net)) mid3 new made
      → Emitted site at (case selector rows other) old new made
  case_some no_rest mid3 new o x made t e h q =
      absurd (let n : option_map (λ (spot : NetRef). spot.net) o ≡ Some x.net = ap (option_map (λ (spot : NetRef). spot.net)) e in let s = t.out in cc)
  case_some (rest a) mid3 new o x made t e h q =
      let n : option_map (λ (spot : NetRef). spot.net) o ≡ Some x.net = ap (option_map (λ (spot : NetRef). spot.net)) e in
      let w : option_map (λ (spot : NetRef). spot.width) o ≡ Some x.width = ap (option_map (λ (spot : NetRef). spot.width)) e in
      case_end (rest a) mid3 new (Some x.net) (Some x.width) made t.nets t.long (sym n ∙ t.out) (width_with (scope_at site) selector rows a h ∙ sym t.width_is ∙ w) q
