-- What follows of a value that is kept beside what is read behind it.
use Rattle.std.proofs.Common.{◌≡◌, List, Bool, Result, Ok, Err, IfOk, IfErr, sym, subst}
use Rattle.grammar.specs.declared.stop.ParseStop.{ParseStop}
use Rattle.grammar.specs.Reading.{Reads, FailsAs, Gives}

pub kept_reads : {T R W : Type 0} (see : R → W × List T) {S : List T → W → Type 0} {m : T → Bool} {us : List T} {read : Result R ParseStop} {r : R} → Gives see S m us read → read ≡ Ok r → Reads S m us (see r).0 (see r).1
kept_reads see {S = S} {m = m} {us = us} g e = subst (λ y. Gives see S m us y) e g

pub kept_fails : {T R W : Type 0} (see : R → W × List T) {S : List T → W → Type 0} {m : T → Bool} {us : List T} {read : Result R ParseStop} {stop : ParseStop} → Gives see S m us read → read ≡ Err stop → FailsAs S m us stop
kept_fails see {S = S} {m = m} {us = us} g e = subst (λ y. Gives see S m us y) e g

-- what a reader gives whose last part is kept so
pub kept_gives : {T A R V W : Type 0} (see : R → W × List T) (view : A × R → V × List T) {S : List T → W → Type 0} {m : T → Bool} {us : List T} {Q : List T → V → Type 0} {n : T → Bool} {ts : List T} {value : A}
    → ((r : R) → Reads S m us (see r).0 (see r).1 → Reads Q n ts (view (value, r)).0 (view (value, r)).1) → ((stop : ParseStop) → FailsAs S m us stop → FailsAs Q n ts stop)
    → (read : Result R ParseStop) → Gives see S m us read → (result : Result (A × R) ParseStop) → IfOk result (λ x. (x.0 ≡ value) × (read ≡ Ok x.1)) → IfErr result (λ stop. read ≡ Err stop) → Gives view Q n ts result
kept_gives see view {Q = Q} {n = n} {ts = ts} reads fails read g (Ok x) o e = subst (λ a. Reads Q n ts (view (a, x.1)).0 (view (a, x.1)).1) (sym o.0) (reads x.1 (kept_reads see g o.1))
kept_gives see view reads fails read g (Err stop) o e = fails stop (kept_fails see g e)
