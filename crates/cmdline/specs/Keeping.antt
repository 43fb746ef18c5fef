-- What a contract lets a caller conclude.
use Rattle.std.specs.Prelude.{ℕ, List}
use contract.Lifetimes.{Lfts}
use denote.Triple.Clauses.{Lasts, at_exit}
use borrow.Fn.Kinds.{ParamKind, ResultKind, Out, Dens, res_t, ended_of}

-- of what a contract claims after a call (a function's Reads.Post; n lifetimes, parameters ps, result r): if Before
-- holds of the arguments, After holds of every result that the claim permits
abbrev pub Gives : (n : ℕ) (ps : List (ParamKind n)) (r : ResultKind n) → Out n ps r
    → ((κs : Lfts n) → Dens κs ps → Type 0) → ((κs : Lfts n) → (res_t r κs).Denot → Type 0) → Type 0
Gives n ps r Post Before After =
    (κs : Lfts n) (a : Dens κs ps) (z : (res_t r κs).Denot) (ws : Lasts (ended_of n ps r) κs a)
    → Post κs a z (at_exit (ended_of n ps r) κs a ws) → Before κs a → After κs z

-- of the same claim: if Before holds of the arguments, After holds of them and of all that the call leaves behind
-- `&mut`
abbrev pub Leaves : (n : ℕ) (ps : List (ParamKind n)) (r : ResultKind n) → Out n ps r
    → ((κs : Lfts n) → Dens κs ps → Type 0) → ((κs : Lfts n) (a : Dens κs ps) → Lasts (ended_of n ps r) κs a → Type 0) → Type 0
Leaves n ps r Post Before After =
    (κs : Lfts n) (a : Dens κs ps) (z : (res_t r κs).Denot) (ws : Lasts (ended_of n ps r) κs a)
    → Post κs a z (at_exit (ended_of n ps r) κs a ws) → Before κs a → After κs a ws

-- of the same claim: what holds of the arguments and of every result that it permits
abbrev pub Says : (n : ℕ) (ps : List (ParamKind n)) (r : ResultKind n) → Out n ps r
    → ((κs : Lfts n) → Dens κs ps → (res_t r κs).Denot → Type 0) → Type 0
Says n ps r Post Holds =
    (κs : Lfts n) (a : Dens κs ps) (z : (res_t r κs).Denot) (ws : Lasts (ended_of n ps r) κs a)
    → Post κs a z (at_exit (ended_of n ps r) κs a ws) → Holds κs a z
