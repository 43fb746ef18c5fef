-- Calls on a new line, its making counted among them, and what each of them says.
use Rattle.answers.specs.Tests.{Check}
use Rattle.std.specs.Prelude.{ℕ, Bool, List, [], ◌∷◌, Err, Option, Result}
use Rattle.answers.specs.declared.Refusal.{Refusal}
use Rattle.answers.specs.declared.Refusal.TheVariants as refusal
use Rattle.cmdline.specs.Text.{Text, empty}
use Rattle.cmdline.specs.Insertion.{Plan, plan_gate, answer_of, settled}
use Rattle.cmdline.specs.Insertion.{insert, insert_str, insert_init_args, insert_multiple}
use Rattle.cmdline.specs.Device.{add_device}
use Rattle.cmdline.specs.Making.{new, try_from}
use Rattle.cmdline.specs.Writing.{write_gate, written_of, written_bytes, same_line}

-- how a line is made: `new`, and `try_from` a text
pub data Making : Type 0 where
  makes_new : Making
  makes_from : List ℕ → Making

-- what is called on it: each function with its arguments beside the line; `writes` into room for so many bytes,
-- `compares` with the texts of another line; `tells` is whatever else is computed from the two texts only, as loading a
-- line into guest memory is
pub data Call : Type 0 where
  inserts : List ℕ → List ℕ → Call
  inserts_multiple : List ℕ → List ℕ → List ℕ → Call
  inserts_str : List ℕ → Call
  inserts_init_args : List ℕ → Call
  adds_device : ℕ → ℕ → ℕ → Option ℕ → Call
  writes : ℕ → Call
  compares : Text → Call
  tells : (List ℕ → List ℕ → List ℕ) → Call

-- what a call says: an answer; what was written; whether two lines are equal; what was worked out from the texts
pub data Said : Type 0 where
  answered : Check → Said
  wrote : Result ℕ Refusal → List ℕ → Said
  compared : Bool → Said
  told : List ℕ → Said

-- a call says something, and leaves the line's texts
pub record Step : Type 0 where
  pub said : Said
  pub text : Text

abbrev pub planned : Plan → Text → Step
planned p t = record { said = answered (answer_of (plan_gate p)); text = settled (plan_gate p) t p.text }

unfoldable pub making : Making → ℕ → Step
making makes_new c = planned (new c) (empty 0)
making (makes_from s) c = planned (try_from s c) (empty 0)

unfoldable pub calling : Call → Text → Step
calling (inserts key value) t = planned (insert t key value) t
calling (inserts_multiple key values ends) t = planned (insert_multiple t key values ends) t
calling (inserts_str slug) t = planned (insert_str t slug) t
calling (inserts_init_args slug) t = planned (insert_init_args t slug) t
calling (adds_device size base irq id) t = planned (add_device t size base irq id) t
calling (writes room) t =
    record { said = wrote (written_of (write_gate t room) t) (written_bytes (write_gate t room) t); text = t }
calling (compares other) t = record { said = compared (same_line t other); text = t }
calling (tells f) t = record { said = told (f t.boot t.init); text = t }

-- what all calls say, in order, and the texts at the end
pub record Run : Type 0 where
  pub said : List Said
  pub text : Text

abbrev pub first_said : Said → Run → Run
first_said s r = record { said = s ∷ r.said; text = r.text }

unfoldable pub calls : List Call → Text → Run
calls [] t = record { said = []; text = t }
calls (k ∷ ks) t = first_said (calling k t).said (calls ks (calling k t).text)

-- a line made with a capacity, and calls on it
unfoldable pub run : Making → List Call → ℕ → Run
run m ks c = first_said (making m c).said (calls ks (making m c).text)

-- ---- refusals for room

-- no room in the line, no room in what is lent, and, at a capacity that is allowed, a text that is too long for it
pub data ForRoom : Refusal → Type 0 where
  line_full : ForRoom refusal.TooLarge
  lent_short : ForRoom refusal.NoRoom
  text_long : ForRoom refusal.InvalidCapacity

pub data RefusedForRoom : Said → Type 0 where
  call_refused : {r : Refusal} → ForRoom r → RefusedForRoom (answered (Err r))
  write_refused : {r : Refusal} {bytes : List ℕ} → ForRoom r → RefusedForRoom (wrote (Err r) bytes)

-- none of them was refused for room
pub data NoneForRoom : List Said → Type 0 where
  no_more : NoneForRoom []
  not_this : {s : Said} {ss : List Said} → (RefusedForRoom s → ⊥) → NoneForRoom ss → NoneForRoom (s ∷ ss)
