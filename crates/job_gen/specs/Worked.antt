-- The texts of the number 1, and what stands for others, computed.
use Rattle.std.specs.Prelude.{◌≡◌, refl, [], ◌∷◌, codes}
use Rattle.std.specs.Fmt.{digits}
use Rattle.std.specs.List.{concat}
use Rattle.job_gen.specs.NetText.{memory_line, net_text, register_line, register_numbers, register_rows, store_number, store_row}
use Rattle.job_gen.specs.SrcText.{drawn, src_text, statement_line}

-- the one number that is drawn from 1, and its statement
first_number : drawn 1 1 ≡ 39022
first_number = refl

first_statement : statement_line 39022 ≡ codes "v6 = v0 + v6;\n"
unfolding statement_line digits
first_statement = refl

-- a number whose statement is a difference: it is drawn from 2
other_number : drawn 2 1 ≡ 64195
other_number = refl

other_statement : statement_line 64195 ≡ codes "v4 = v5 - v6;\n"
unfolding statement_line digits
other_statement = refl

-- the program of 1
program_of_one : src_text 1 ≡ concat (
    codes "var v0, v1, v2, v3, v4, v5, v6, v7, i;\n"
    ∷ codes "v0 = 1;\nv1 = 2;\nv2 = 3;\nv3 = 4;\nv4 = 5;\nv5 = 6;\nv6 = 7;\nv7 = 8;\n"
    ∷ codes "for i = 0 to 9 {\nv6 = v0 + v6;\n}\n" ∷ [])
unfolding src_text statement_line digits
program_of_one = refl

-- the netlist of 1 has two accumulators
netlist_of_one : net_text 1 ≡ concat (
    codes "code I : 24 size 4096 at PC;\nnet f : 16 = I[15:0];\nnet op : 8 = I[23:16];\n"
    ∷ codes "register PC : 16 in case op { 6: f; 7: case eq(A0, 0#16) { 1: f; 0: add(PC, 1#16); }; else: add(PC, 1#16); };\n"
    ∷ codes "register A0 : 16 in case op { 1: read(M, f); 2: add(A0, read(M, f)); 3: sub(A0, read(M, f)); else: f; } "
    ∷ codes "when case op { 1, 2, 3, 5: 1#1; else: 0#1; };\n"
    ∷ codes "register A1 : 16 in case op { 9: read(M, f); 10: add(A1, read(M, f)); 11: sub(A1, read(M, f)); else: f; } "
    ∷ codes "when case op { 9, 10, 11, 13: 1#1; else: 0#1; };\n"
    ∷ codes "memory M : 16 size 4096 addr 16 write case op { 4: A0; 12: A1; else: A0; } at f when case op { 4, 12: 1#1; else: 0#1; };\n" ∷ [])
unfolding net_text register_line register_rows register_numbers store_row store_number digits
netlist_of_one = refl

-- the memory of 4, whose netlist has one accumulator, and of 3, which has four
memory_of_one : memory_line 0 ≡ codes "memory M : 16 size 4096 addr 16 write case op { 4: A0; else: A0; } at f when case op { 4: 1#1; else: 0#1; };\n"
unfolding store_row store_number digits
memory_of_one = refl

memory_of_four : memory_line 3 ≡ concat (
    codes "memory M : 16 size 4096 addr 16 write case op { 4: A0; 12: A1; 20: A2; 28: A3; else: A0; } "
    ∷ codes "at f when case op { 4, 12, 20, 28: 1#1; else: 0#1; };\n" ∷ [])
unfolding store_row store_number digits
memory_of_four = refl
