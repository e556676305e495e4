-- Laws of scales: the second that a whole number is, the answers, and the way back.
use mathlib.Core.Path.{◌≡◌, refl, sym, ap, ◌∙◌, subst}
use mathlib.Core.Bool.{true}
use mathlib.Core.Logic.{inl, inr}
use Prim.Native.Nat.{ℕ, ◌<◌, ◌≤◌}
use native.Mathlib.Omega.{arith}
use borrow.Author.Tests.{lt-ltb, le-ltb, ltb-true, ltb-false}
use lib.Dec.{ltb}
use lib.IntN.{ℤ, pos, negsuc, nat_abs, ◌+ℤ◌, ◌-ℤ◌, pos-ne-negsuc, +ℤ_idr, -ℤ-+ℤ_cancel, +ℤ-neg_ℤ_cancel}
use lib.Signed.{lt_z}
use Rattle.std.proofs.Common.{Result, Ok, Err}
use Rattle.std.specs.Result.{MatchResult, IsOkAnd}
use Rattle.refusals.specs.declared.Refusal.{Refusal}
use Rattle.refusals.specs.declared.Refusal.TheVariants.{OutOfRange, BeyondRange}
use Rattle.ptp.specs.Scale.{seconds_end, second_of, scaled_of, on_scale, gps_offset, as_gps, gps_of, as_utc, utc_of, ntp_offset, as_ntp, ntp_of}
use Rattle.ptp.specs.Demands.{SecondAnswers, ScaleAnswers, gps_count, utc_count, ntp_count, from_gps, from_utc, from_ntp}
use Rattle.ptp.specs.declared.PtpSecond.{PtpSecond}
use Rattle.ptp.specs.declared.GpsSecond.{GpsSecond}
use Rattle.ptp.specs.declared.UtcSecond.{UtcSecond}
use Rattle.ptp.specs.declared.NtpSecond.{NtpSecond}
use Rattle.numbers.proofs.Machine.{is_neg}
use Rattle.numbers.proofs.Branches.{if_true, if_false, if_when}

-- ---- the second of a scale, case by case

module _ (ptp : ℕ) where
  pub scaled_out : (z : ℤ) → seconds_end ≤ ptp → Err OutOfRange ≡ scaled_of ptp z
  unfolding scaled_of
  scaled_out z h = if_false _ _ _ (le-ltb _ _ h)

  pub scaled_in : (z : ℤ) → ptp < seconds_end → second_of z ≡ scaled_of ptp z
  unfolding scaled_of
  scaled_in z h = if_true _ _ _ (lt-ltb _ _ h)

  pub scaled_under : (z : ℤ) → ptp < seconds_end → lt_z z (pos 0) ≡ true → Err BeyondRange ≡ scaled_of ptp z
  scaled_under z h e = ap second_of (sym (is_neg z e)) ∙ scaled_in z h

  pub scaled_beyond : (z : ℤ) → ptp < seconds_end → seconds_end ≤ nat_abs z → Err BeyondRange ≡ scaled_of ptp z
  scaled_beyond (pos n) h k = if_false _ _ _ (le-ltb _ _ k) ∙ scaled_in (pos n) h
  scaled_beyond (negsuc n) h k = scaled_in (negsuc n) h

  pub scaled_at : (z : ℤ) (n : ℕ) → ptp < seconds_end → z ≡ pos n → n < seconds_end → Ok n ≡ scaled_of ptp z
  scaled_at z n h e k = if_true _ _ _ (lt-ltb _ _ k) ∙ ap second_of (sym e) ∙ scaled_in z h

-- ---- each scale as PTP + offset - leap seconds

-- what `map` hands back: a second that has the number which was found, or the same refusal
abbrev pub Mapped : {S : Type 0} → (S → ℕ) → Result ℕ Refusal → Result S Refusal → Type 0
Mapped count scaled r = MatchResult scaled (λ n. IsOkAnd r (λ s. count s ≡ n)) (λ refusal. r ≡ Err refusal)

-- that is the answer on the scale
mapped : {S : Type 0} (count : S → ℕ) (as_second : ℕ → S) → ((s : S) → s ≡ as_second (count s)) → (scaled : Result ℕ Refusal) (r : Result S Refusal) → Mapped count scaled r
    → r ≡ on_scale as_second scaled
mapped count as_second made (Ok n) (Ok s) h = ap Ok (made s ∙ ap as_second h)
mapped count as_second made (Ok n) (Err refusal) h = absurd h
mapped count as_second made (Err refusal) r h = h

module _ (s : PtpSecond) {scaled : Result ℕ Refusal} where
  pub gps_by : {r : Result GpsSecond Refusal} → scaled ≡ scaled_of s.0 (pos s.0 -ℤ pos gps_offset -ℤ pos 0) → Mapped gps_count scaled r → r ≡ gps_of s
  unfolding gps_of
  gps_by {r} e h =
      mapped gps_count as_gps (λ g. refl) scaled r h ∙ ap (on_scale as_gps) (e ∙ ap (scaled_of s.0) (+ℤ_idr (pos s.0 -ℤ pos gps_offset)))

  pub utc_by : {r : Result UtcSecond Refusal} {leap read : ℤ} → read ≡ leap → scaled ≡ scaled_of s.0 (pos s.0 +ℤ pos 0 -ℤ read) → Mapped utc_count scaled r → r ≡ utc_of s leap
  unfolding utc_of
  utc_by {r} q e h =
      mapped utc_count as_utc (λ u. refl) scaled r h ∙ ap (on_scale as_utc) (e ∙ (λ i. scaled_of s.0 (+ℤ_idr (pos s.0) i -ℤ q i)))

  pub ntp_by : {r : Result NtpSecond Refusal} {leap read : ℤ} → read ≡ leap → scaled ≡ scaled_of s.0 (pos s.0 +ℤ pos ntp_offset -ℤ read) → Mapped ntp_count scaled r → r ≡ ntp_of s leap
  unfolding ntp_of
  ntp_by {r} q e h =
      mapped ntp_count as_ntp (λ n. refl) scaled r h ∙ ap (on_scale as_ntp) (e ∙ (λ i. scaled_of s.0 (pos s.0 +ℤ pos ntp_offset -ℤ q i)))

-- ---- the answers, in their order

-- the answers of a scale, whose second is made of a number and tells that number
module _ {S : Type 0} (count : S → ℕ) (as_second : ℕ → S) (counted : (n : ℕ) → count (as_second n) ≡ n) where
  second_answers : (z : ℤ) → SecondAnswers count z (on_scale as_second (second_of z))
  second_answers (pos n) =
      if_when (λ (r : Result ℕ Refusal). SecondAnswers count (pos n) (on_scale as_second r)) (ltb n seconds_end)
      (λ e. inr (refl, (as_second n, refl, omega (arith, counted n, ltb-true n seconds_end e), ap pos (sym (counted n)))))
      (λ e. inl (refl, refl, λ m q. omega (arith, ltb-false n seconds_end e, ap nat_abs q)))
  second_answers (negsuc n) = inl (refl, refl, λ m q. absurd (pos-ne-negsuc m n (sym q)))

  scale_answers : (ptp : ℕ) (z : ℤ) → ScaleAnswers count ptp z (on_scale as_second (scaled_of ptp z))
  unfolding scaled_of
  scale_answers ptp z =
      if_when (λ (r : Result ℕ Refusal). ScaleAnswers count ptp z (on_scale as_second r)) (ltb ptp seconds_end) (λ e. inr (ltb-true _ _ e, second_answers z))
      (λ e. inl (refl, refl, ltb-false _ _ e))

pub gps_answers : (s : PtpSecond) → ScaleAnswers gps_count s.0 (pos s.0 -ℤ pos gps_offset) (gps_of s)
unfolding gps_of
gps_answers s = scale_answers gps_count as_gps (λ n. refl) s.0 (pos s.0 -ℤ pos gps_offset)

pub utc_answers : (s : PtpSecond) (leap : ℤ) → ScaleAnswers utc_count s.0 (pos s.0 -ℤ leap) (utc_of s leap)
unfolding utc_of
utc_answers s leap = scale_answers utc_count as_utc (λ n. refl) s.0 (pos s.0 -ℤ leap)

pub ntp_answers : (s : PtpSecond) (leap : ℤ) → ScaleAnswers ntp_count s.0 (pos s.0 +ℤ pos ntp_offset -ℤ leap) (ntp_of s leap)
unfolding ntp_of
ntp_answers s leap = scale_answers ntp_count as_ntp (λ n. refl) s.0 (pos s.0 +ℤ pos ntp_offset -ℤ leap)

-- ---- the way back

-- a scale that answers with a second answers with that number
module _ {S : Type 0} (count : S → ℕ) (ptp : ℕ) (z : ℤ) (s : S) where
  second_told : ScaleAnswers count ptp z (Ok s) → pos (count s) ≡ z
  second_told (inl (k, n, h)) = absurd (omega (arith, k))
  second_told (inr (h, inl (k, n, g))) = absurd (omega (arith, k))
  second_told (inr (h, inr (k, (t, e, l, m)))) =
      let same : s ≡ t = cc in
      ap (λ (x : S). pos (count x)) same ∙ sym m

  scale_second : {a : Result S Refusal} → ScaleAnswers count ptp z a → a ≡ Ok s → pos (count s) ≡ z
  scale_second h e = second_told (subst (ScaleAnswers count ptp z) e h)

pub gps_back : (s : PtpSecond) (g : GpsSecond) → gps_of s ≡ Ok g → from_gps g ≡ pos s.0
gps_back s g e =
    ap (λ (z : ℤ). z +ℤ pos gps_offset) (scale_second gps_count s.0 (pos s.0 -ℤ pos gps_offset) g (gps_answers s) e)
    ∙ -ℤ-+ℤ_cancel (pos s.0) (pos gps_offset)

pub utc_back : (s : PtpSecond) (leap : ℤ) (u : UtcSecond) → utc_of s leap ≡ Ok u → from_utc u leap ≡ pos s.0
utc_back s leap u e =
    ap (λ (z : ℤ). z +ℤ leap) (scale_second utc_count s.0 (pos s.0 -ℤ leap) u (utc_answers s leap) e)
    ∙ -ℤ-+ℤ_cancel (pos s.0) leap

pub ntp_back : (s : PtpSecond) (leap : ℤ) (n : NtpSecond) → ntp_of s leap ≡ Ok n → from_ntp n leap ≡ pos s.0
ntp_back s leap n e =
    let z = pos s.0 +ℤ pos ntp_offset -ℤ leap in
    ap (λ (y : ℤ). y +ℤ leap -ℤ pos ntp_offset) (scale_second ntp_count s.0 z n (ntp_answers s leap) e)
    ∙ ap (λ (y : ℤ). y -ℤ pos ntp_offset) (-ℤ-+ℤ_cancel (pos s.0 +ℤ pos ntp_offset) leap)
    ∙ +ℤ-neg_ℤ_cancel (pos s.0) (pos ntp_offset)
