use Rattle.std.proofs.Common.{◌++◌, length, map}
use Rattle.grammar.specs.Reading.{Leads, ListOf}
use Rattle.src_model.specs.declared.words.Symbol.TheVariants.{Comma}
use Rattle.grammar.specs.Tokens.{Behind}
use Rattle.src_model.specs.Grammar.{DeclsBehind, IsDecl}
use Rattle.src_parser.specs.Inner.Steps.{after_decls}
use Rattle.src_parser.proofs.declaration.others.Given as goal

-- what completes the variables so far completes those behind the first one
abbrev pub invariant-others : goal.invariant-others
invariant-others l = Leads (λ vs. map (λ v. v) l.vars.items ++ vs) (ListOf (Behind Comma IsDecl)) after_decls l.rest (DeclsBehind l.fn.first) after_decls l.fn.ts

abbrev pub decreases-others : goal.decreases-others
decreases-others l = length l.rest
