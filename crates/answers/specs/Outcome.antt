-- One outcome: any two outcomes that a contract permits for the same arguments are the same.
use Rattle.std.specs.Prelude.{ℕ, ◌≡◌, List}
use contract.Lifetimes.{Lfts}
use denote.Triple.Clauses.{Lasts, at_exit}
use borrow.Fn.Kinds.{ParamKind, ResultKind, Out, Dens, res_t, ended_of}

-- of what a contract claims after a call (a function's Reads.Post; n lifetimes, parameters ps, result r): for all arguments a, two
-- results z and z', and two contents ws and ws' of everything lent by `&mut`, which the claim permits, are equal
abbrev pub OneOutcome : (n : ℕ) (ps : List (ParamKind n)) (r : ResultKind n) → Out n ps r → Type 0
OneOutcome n ps r Post =
    (κs : Lfts n) (a : Dens κs ps) (z z' : (res_t r κs).Denot) (ws ws' : Lasts (ended_of n ps r) κs a)
    → Post κs a z (at_exit (ended_of n ps r) κs a ws) → Post κs a z' (at_exit (ended_of n ps r) κs a ws')
    → (z ≡ z') × (ws ≡ ws')
