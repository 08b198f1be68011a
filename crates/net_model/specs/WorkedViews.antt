-- What the code's expressions and transfers are seen as: one of each kind, wherever its boxes p, q
-- and r lie.
use Rattle.std.specs.Prelude.{◌≡◌, refl, Box}
use Rattle.std.specs.declared.alloc.Global.{Global}
use Rattle.rec_bits.specs.declared.operator.Op1.TheVariants.{Not}
use Rattle.rec_bits.specs.declared.operator.Op2.TheVariants.{Sub}
use Rattle.net_model.specs.declared.hardware.Space.TheVariants.{Memory as InMemory}
use Rattle.net_model.specs.declared.expression.Expr.TheVariants.{Word, Reg, Const, Read', Un', Bin', Slice', Cat', Zext', Sext', Select'}
use Rattle.net_model.specs.declared.expression.Transfer.TheVariants.{Keep, Write, WriteAt}
use Rattle.net_model.specs.Exprs.{word, reg, const, read, un, bin, slice, cat, zext, sext, select, keep, write, write_at, model_of_expr, model_of_transfer}

module _ (p q r : Box (Unit {0}) Global) where
  pub seen_word : model_of_expr (Word 12) ≡ word 12
  seen_word = refl

  pub seen_register : model_of_expr (Reg 1 16) ≡ reg 1 16
  seen_register = refl

  pub seen_constant : model_of_expr (Const 4 9) ≡ const 4 9
  seen_constant = refl

  pub seen_read : model_of_expr (Read' p (Reg 1 8) 16) ≡ read InMemory (reg 1 8) 16
  seen_read = refl

  pub seen_not : model_of_expr (Un' Not p (Word 12)) ≡ un Not (word 12)
  seen_not = refl

  -- the order of operands stays
  pub seen_difference : model_of_expr (Bin' Sub p (Reg 1 16) q (Reg 2 16)) ≡ bin Sub (reg 1 16) (reg 2 16)
  seen_difference = refl

  pub seen_slice : model_of_expr (Slice' p (Word 12) 7 2) ≡ slice (word 12) 7 2
  seen_slice = refl

  pub seen_pair : model_of_expr (Cat' p (Reg 1 4) q (Const 2 3)) ≡ cat (reg 1 4) (const 2 3)
  seen_pair = refl

  pub seen_zext : model_of_expr (Zext' p (Reg 1 4) 16) ≡ zext (reg 1 4) 16
  seen_zext = refl

  pub seen_sext : model_of_expr (Sext' p (Reg 1 4) 16) ≡ sext (reg 1 4) 16
  seen_sext = refl

  pub seen_choice : model_of_expr (Select' p (Reg 0 1) q (Reg 1 4) r (Reg 2 4)) ≡ select (reg 0 1) (reg 1 4) (reg 2 4)
  seen_choice = refl

  -- an expression in an expression
  pub seen_within : model_of_expr (Zext' p (Read' q (Slice' r (Word 12) 7 0) 8) 16) ≡ zext (read InMemory (slice (word 12) 7 0) 8) 16
  seen_within = refl

  pub seen_keep : model_of_transfer Keep ≡ keep
  seen_keep = refl

  pub seen_write : model_of_transfer (Write (Reg 1 16)) ≡ write (reg 1 16)
  seen_write = refl

  -- the address stands before the value
  pub seen_store : model_of_transfer (WriteAt (Word 8) (Reg 1 8)) ≡ write_at (word 8) (reg 1 8)
  seen_store = refl
