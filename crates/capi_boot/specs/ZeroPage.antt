-- The numbers of a boot by zero page.
use Rattle.std.specs.Prelude.{ℕ}
use Rattle.boot.specs.declared.zero_page.ZeroPage.{ZeroPage}
use Rattle.capi_boot.specs.Calls.{is_wide}

abbrev pub zero_page_by : ℕ → ℕ → ℕ → ℕ → ZeroPage
zero_page_by line ramdisk page flags = record { line = line; ramdisk = ramdisk; page = page; wide = is_wide flags }
