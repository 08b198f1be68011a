use Rattle.std.proofs.Common.{◌≡◌, ◌++◌, [], map, drop}
use Rattle.net_model.specs.DriverRules.{are_new, case_numbers}
use Rattle.net_model.specs.Written.{case_rows_of, model_of_case_row}
use Rattle.net_rules.proofs.cases.covers_values.Given as goal

abbrev pub invariant-loop-row : goal.invariant-loop-row
invariant-loop-row l = record {
  new : are_new l.seen (case_numbers (case_rows_of (map model_of_case_row (drop l.row-index l.rows)))) ≡ are_new [] (case_numbers (case_rows_of (map model_of_case_row l.rows)));
  all : l.seen ++ case_numbers (case_rows_of (map model_of_case_row (drop l.row-index l.rows))) ≡ case_numbers (case_rows_of (map model_of_case_row l.rows));
}
