use Rattle.std.proofs.Common.{rules, refl, inr, arith}
use Rattle.std.proofs.lemmas.Result.{err_from_is_err_and}
use Rattle.rec_io.proofs.mem_shelf.MemShelfShelf.fetch.Goals as goal

-- where memory runs out the answer is Memory
pub returns-in_err-from_str : goal.returns-in_err-from_str
returns-in_err-from_str c =
    let p = err_from_is_err_and c.from_residual.result c.from_residual.ensures.1 in
    rw (p.1, p.2) (record {
      same = refl;
      later = search rules;
      within = omega arith;
      got = tt;
      refused = record { last = refl; count = refl };
      turn = search rules;
      fails = refl;
      due = λ e. absurd cc;
      faulty = λ due. inr refl;
      nothing = λ e. absurd cc;
      whole = λ e. absurd cc;
    })

pub returns-in_err-to_vec : goal.returns-in_err-to_vec
returns-in_err-to_vec c =
    let p = err_from_is_err_and c.from_residual-in_err-to_vec.result c.from_residual-in_err-to_vec.ensures.1 in
    rw (p.1, p.2) (record {
      same = refl;
      later = search rules;
      within = omega arith;
      got = tt;
      refused = record { last = refl; count = refl };
      turn = search rules;
      fails = refl;
      due = λ e. absurd cc;
      faulty = λ due. inr refl;
      nothing = λ e. absurd cc;
      whole = λ e. absurd cc;
    })
