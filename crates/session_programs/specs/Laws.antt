-- The three programs keep the laws.
use Rattle.std.specs.Prelude.{◌≡◌, List, ℕ, ◌<◌, length}
use Rattle.std.proofs.Common.{sym, ◌∙◌, arith, true≢false}
use Rattle.refusals.specs.Refusals.{bad_line as badNumber}
use Rattle.bridge.specs.declared.Bridge.{Bridge}
use Rattle.answer.specs.Answer.{refused_line}
use Rattle.capture.specs.Capture.{listed_as}
use Rattle.capture.proofs.CaptureLaws.{listed_long}
use Rattle.latch.proofs.LatchLaws.{latch_stays, latch_long}
use Rattle.replay_grammar.specs.Line.{longest_line}
use Rattle.replay_calls.proofs.AnswerLaws.{asks_stays, answer_long}
use Rattle.session_programs.specs.Programs.{ProgramLaws, listing, replay, stamps}

-- a line that is too long is answered as bad by each
module _ (b : Bridge) (s : List ℕ) (h : longest_line < length s) where
  long_listed : listed_as b badNumber ≡ listing.answer b s
  long_listed = listed_long b s (omega (arith, h))

  long_replayed : refused_line b ≡ replay.answer b s
  long_replayed = answer_long b s h

  long_stamped : listed_as b badNumber ≡ stamps.answer b s
  long_stamped = long_listed ∙ latch_long b s (omega (arith, h))

pub listing_laws : ProgramLaws listing
listing_laws = record {
  asked_stays = λ b s e. absurd (true≢false (sym e));
  long_alike = λ b s t h k. sym (long_listed b s h) ∙ long_listed b t k;
}

pub replay_laws : ProgramLaws replay
replay_laws = record {
  asked_stays = asks_stays;
  long_alike = λ b s t h k. sym (long_replayed b s h) ∙ long_replayed b t k;
}

pub stamps_laws : ProgramLaws stamps
stamps_laws = record {
  asked_stays = latch_stays;
  long_alike = λ b s t h k. sym (long_stamped b s h) ∙ long_stamped b t k;
}
