-- `listing::next_word`: spaces are passed over, and then there is a word, closed or not.
use Rattle.std.proofs.Common.{rules, arith, ◌≡◌, ◌∙◌, ◌+◌, ◌-◌, ◌<◌, ℕ, length, take, drop, get_or, sym}
use Rattle.words.proofs.WordsLaws.{rest_at, no_word, open_word, next_is}
use Rattle.words.proofs.listing.next_word.Goals as goal

pub returns-in_err-start : goal.returns-in_err-start
returns-in_err-start c =
    let line = c.args.line.now in
    let at = c.args.at in
    let none : (k : ℕ) → k < length line - at → get_or (take (length line - at) (drop at line)) k 0 ≡ 32 = search rules in
    rw c.from_residual.ensures (no_word line at (length line - at) (omega (arith, c.requires)) (λ k h. sym (rest_at line at k) ∙ none k h))

pub returns-then-quote_at : goal.returns-then-quote_at
returns-then-quote_at c =
    let line = c.args.line.now in
    let at = c.args.at in
    let n = c.in_ok-start.field-0 in
    let rest = take (length line - at) (drop at line) in
    let within : at + n < length line = search rules in
    let spaces : (k : ℕ) → k < n → get_or rest k 0 ≡ 32 = search rules in
    let other : get_or rest n 0 ≡ 32 → ⊥ = search rules in
    open_word line at n within (λ k h. sym (rest_at line at k) ∙ spaces k h) (λ e. other (rest_at line at n ∙ e)) c.stop_at-end.result c.stop_at-end.ensures
    (sym c.quote_at.ensures ∙ c.if-quote_at.true)

pub returns-else-quote_at : goal.returns-else-quote_at
returns-else-quote_at c =
    let line = c.args.line.now in
    let at = c.args.at in
    let n = c.in_ok-start.field-0 in
    let rest = take (length line - at) (drop at line) in
    let within : at + n < length line = search rules in
    let spaces : (k : ℕ) → k < n → get_or rest k 0 ≡ 32 = search rules in
    let other : get_or rest n 0 ≡ 32 → ⊥ = search rules in
    next_is line at n within (λ k h. sym (rest_at line at k) ∙ spaces k h) (λ e. other (rest_at line at n ∙ e)) c.stop_at-end.result c.stop_at-end.ensures
    (sym c.quote_at.ensures ∙ c.if-quote_at.false)
