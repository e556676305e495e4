-- The characters that text is made of besides digits.
use Rattle.std.specs.Prelude.{ℕ}

abbrev pub space : ℕ
space = 32

abbrev pub newline : ℕ
newline = 10

-- what stands for no bytes
abbrev pub no_bytes_mark : ℕ
no_bytes_mark = 45
