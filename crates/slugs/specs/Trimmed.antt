-- Trimming, said without its recursion: blanks, the text, blanks, and no blank at either end of the text.
use Rattle.std.specs.Prelude.{ℕ, ◌-◌, ◌<◌, ◌≡◌, true, false, List, ◌++◌, length, get_or}
use Rattle.slugs.specs.Bytes.{blank, all_bytes}

-- t is s without the blanks at its ends
pub record Trimmed (s t : List ℕ) : Type 0 where
  pub before : List ℕ
  pub after : List ℕ
  pub whole : s ≡ before ++ (t ++ after)
  pub blanks_before : all_bytes blank before ≡ true
  pub blanks_after : all_bytes blank after ≡ true
  pub first : 0 < length t → blank (get_or t 0 0) ≡ false
  pub last : 0 < length t → blank (get_or t (length t - 1) 0) ≡ false
