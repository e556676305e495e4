-- The letter of each call, and the kinds of the fields that follow it.
use Rattle.std.specs.Prelude.{ℕ, cond, List, [], ◌∷◌, ◌++◌, replicate, eqb}
use Rattle.forms.specs.declared.kind.Kind.{Kind}
use Rattle.forms.specs.declared.kind.Kind.TheVariants.{Byte, Number, NumberOrDefault, DelayOrMeasured, Flag, Length, Bytes, Exactly}

-- the letters, in ASCII
abbrev pub letter_s : ℕ
letter_s = 83

abbrev pub letter_p : ℕ
letter_p = 80

abbrev pub letter_v : ℕ
letter_v = 86

abbrev pub letter_l : ℕ
letter_l = 76

abbrev pub letter_o : ℕ
letter_o = 79

abbrev pub letter_r : ℕ
letter_r = 82

abbrev pub letter_a : ℕ
letter_a = 65

abbrev pub letter_c : ℕ
letter_c = 67

abbrev pub letter_t : ℕ
letter_t = 84

abbrev pub letter_d : ℕ
letter_d = 68

abbrev pub letter_f : ℕ
letter_f = 70

abbrev pub letter_w : ℕ
letter_w = 87

abbrev pub letter_b : ℕ
letter_b = 66

abbrev pub letter_e : ℕ
letter_e = 69

abbrev pub letter_k : ℕ
letter_k = 75

abbrev pub letter_h : ℕ
letter_h = 72

abbrev pub letter_x : ℕ
letter_x = 88

abbrev pub letter_i : ℕ
letter_i = 73

abbrev pub letter_g : ℕ
letter_g = 71

abbrev pub letter_u : ℕ
letter_u = 85

abbrev pub letter_n : ℕ
letter_n = 78

abbrev pub letter_y : ℕ
letter_y = 89

abbrev pub letter_z : ℕ
letter_z = 90

-- just the bytes of an address, of a precedence, of an errorTime, of leap seconds, of a version for each port
abbrev pub ADDRESS : Kind
ADDRESS = Exactly 6

abbrev pub PRECEDENCE : Kind
PRECEDENCE = Exactly 13

abbrev pub ERROR : Kind
ERROR = Exactly 4

abbrev pub LEAP : Kind
LEAP = Exactly 2

abbrev pub VERSIONS : Kind
VERSIONS = Exactly 8

-- ---- rows

-- of a plain line, one whose call needs no bridge: F, W, B, H, X, I, G, U, N; nothing follows C, nor a letter that no call has
unfoldable pub plain_row : ℕ → List Kind
plain_row letter =
    cond (eqb letter letter_f) (Bytes ∷ [])
    (cond (eqb letter letter_w) (ADDRESS ∷ PRECEDENCE ∷ Byte ∷ Byte ∷ Number ∷ Number ∷ Number ∷ Number ∷ Number ∷ ERROR ∷ Byte ∷ Length ∷ [])
    (cond (eqb letter letter_b) (Bytes ∷ Bytes ∷ [])
    (cond (eqb letter letter_h) (Byte ∷ [])
    (cond (eqb letter letter_x) (Number ∷ Number ∷ [])
    (cond (eqb letter letter_i) (Number ∷ Number ∷ [])
    (cond (eqb letter letter_g) (Number ∷ [])
    (cond (eqb letter letter_u) (Number ∷ LEAP ∷ [])
    (cond (eqb letter letter_n) (Number ∷ LEAP ∷ [])
    []))))))))

-- what every line of Setup says
abbrev pub setup_kinds : List Kind
setup_kinds = Byte ∷ ADDRESS ∷ PRECEDENCE ∷ Flag ∷ NumberOrDefault ∷ NumberOrDefault ∷ replicate 8 DelayOrMeasured

-- of S and P, which say no more
abbrev pub setup_row : List Kind
setup_row = setup_kinds

-- of V, which says before it whether it is a listener's, and after it the versions
abbrev pub whole_setup_row : List Kind
whole_setup_row = Flag ∷ (setup_kinds ++ (VERSIONS ∷ []))

-- the row of each letter
unfoldable pub row_of : ℕ → List Kind
row_of letter =
    cond (eqb letter letter_s) setup_row
    (cond (eqb letter letter_p) setup_row
    (cond (eqb letter letter_v) whole_setup_row
    (cond (eqb letter letter_l) (Byte ∷ [])
    (cond (eqb letter letter_o) (Byte ∷ Number ∷ Number ∷ Number ∷ [])
    (cond (eqb letter letter_r) (Byte ∷ Number ∷ Bytes ∷ [])
    (cond (eqb letter letter_a) (Number ∷ [])
    (cond (eqb letter letter_t) (Byte ∷ Number ∷ Length ∷ [])
    (cond (eqb letter letter_d) (Byte ∷ [])
    (cond (eqb letter letter_e) (Number ∷ [])
    (cond (eqb letter letter_k) (Byte ∷ [])
    (plain_row letter)))))))))))
