-- One outcome, for a function over a reader: what is said of its own clauses, which need not be facts of its arguments alone.
use Rattle.std.specs.Prelude.{◌≡◌}
use seplogic.Ra.Ura.{Ura}
use base.Logic.{ent, sep}
use contract.Lifetimes.{Lfts}
use contract.Monad.{fact}
use denote.Triple.Entry.{Args, Res}
use denote.Triple.Clauses.{Ended, Clauses, Lasts, at_exit}

-- for all arguments a, two results z and z', and two contents ws and ws' of everything lent by `&mut`, which the clauses permit, are equal
abbrev pub OneOutcomeOf : {M : Type 1} (𝓤 : Ura M) (T : Ended) → Clauses 𝓤 T → Type 1
OneOutcomeOf 𝓤 T c =
    (κs : Lfts T.signature.lifetimes) (a : Args T.signature κs) (g : (c κs a).ghost) (z z' : Res T.signature κs) (ws ws' : Lasts T κs a)
    → ent 𝓤 (sep 𝓤 ((c κs a).ensures g z (at_exit T κs a ws)) ((c κs a).ensures g z' (at_exit T κs a ws'))) (fact 𝓤 ((z ≡ z') × (ws ≡ ws')))
