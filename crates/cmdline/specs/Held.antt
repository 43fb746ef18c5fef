-- The struct that holds a line: the texts that it holds, and the struct that holds given texts.
use Rattle.answers.specs.Tests.{Check}
use Rattle.answers.specs.declared.Refusal.{Refusal}
use Rattle.std.specs.Prelude.{ℕ, min, ◌≡◌, List, length, take, replicate, Result, Ok, Err}
use Rattle.std.proofs.lemmas.List.Edits.{sets}
use Rattle.cmdline.specs.declared.Cmdline.{Cmdline}
use Rattle.cmdline.specs.Limit.{limit}
use Rattle.cmdline.specs.Text.{Text}
use Rattle.cmdline.specs.Insertion.{Plan, plan_gate, answer_of, settled}
use Rattle.cmdline.specs.Writing.{Writes}

-- the texts of a line. A length or a capacity above the limit, which no constructor makes, counts as the limit
abbrev pub text_of : Cmdline → Text
text_of l =
    record {
      boot = take (min l.boots limit) l.boot;
      init = take (min l.inits limit) l.init;
      capacity = min l.capacity limit;
    }

-- the line that holds these texts, each at the start of its buffer, the rest of the buffer as it was
abbrev pub holding : Cmdline → Text → Cmdline
holding l t =
    record {
      boot = sets l.boot 0 t.boot;
      boots = length t.boot;
      init = sets l.init 0 t.init;
      inits = length t.init;
      capacity = t.capacity;
    }

-- the line of two buffers and their numbers, each number no more than the limit
abbrev pub clamped_line : List ℕ → ℕ → List ℕ → ℕ → ℕ → Cmdline
clamped_line boot boots init inits capacity =
    record { boot = boot; boots = min boots limit; init = init; inits = min inits limit; capacity = min capacity limit }

-- the empty line over buffers of zeros
abbrev pub blank_line : ℕ → Cmdline
blank_line c = record { boot = replicate limit 0; boots = 0; init = replicate limit 0; inits = 0; capacity = c }

-- what a call says, and the line after it
pub record Reply : Type 0 where
  pub answer : Check
  pub line : Cmdline

-- the line after the call or, where it is refused, the line before it
abbrev pub settled_reply : Check → Cmdline → Cmdline → Reply
settled_reply g before after = record { answer = answer_of g; line = settled g before after }

-- a call on a line: where it is refused the line stays unchanged, both parts, buffers included
abbrev pub reply_of : Cmdline → Plan → Reply
reply_of l p = settled_reply (plan_gate p) l (holding l p.text)

-- a making
abbrev pub made_of : Plan → Reply
made_of p = settled_reply (plan_gate p) (blank_line 0) (holding (blank_line 0) p.text)

-- a function that changes a line says what a call says, and leaves the line after it
abbrev pub Replies : Reply → Check → Cmdline → Type 0
Replies r answer line = (answer ≡ r.answer) × (line ≡ r.line)

-- a function that makes a line returns the line of a making that is accepted, and else its refusal
abbrev pub line_by : Check → Cmdline → Result Cmdline Refusal
line_by (Ok _) line = Ok line
line_by (Err refusal) line = Err refusal

abbrev pub line_of : Reply → Result Cmdline Refusal
line_of r = line_by r.answer r.line

-- what such a function says
abbrev pub said_of : {A : Type 0} → Result A Refusal → Check
said_of (Ok _) = Ok tt
said_of (Err refusal) = Err refusal

-- writing a line
abbrev pub WrittenAs : Cmdline → List ℕ → Result ℕ Refusal → List ℕ → Type 0
WrittenAs l out r left = Writes (text_of l) out r left
