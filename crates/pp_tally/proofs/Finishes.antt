-- How printing ends, and what that makes of a tally.
use Rattle.std.proofs.Common.{◌≡◌, ℕ, ◌*◌, ◌≤◌, List, ◌++◌, length, replicate, get_or, refl, sym, ap, ◌∙◌, subst, arith}
use Rattle.std.specs.Prelude.{Some}
use Rattle.pp_devices.specs.declared.ways.Way.{Way}
use Rattle.pp_devices.specs.declared.ways.Way.TheVariants as way
use Rattle.pp_devices.specs.Devices.{Device, world}
use Rattle.pp_model.specs.declared.Answer.{Answer}
use Rattle.pp_model.specs.Calls.{inserts}
use Rattle.pp_model.specs.History.{contents_of}
use Rattle.pp_model.specs.Lists.{times}
use Rattle.pp_model.specs.Pass.{RunView}
use Rattle.pp_words.specs.declared.Settings.{Settings}
use Rattle.pp_programs.specs.Causes.{Says}
use Rattle.pp_programs.specs.Printed.{IsFinished}
use Rattle.pp_programs.proofs.Causes.{no_memory_read}
use Rattle.pp_pieces.specs.Claims.{all_claims}
use Rattle.pp_pieces.specs.Counts.{Counted}
use Rattle.pp_pieces.specs.Pieces.{pieces_of}
use Rattle.pp_claims.specs.Claimed.{AreOwned, AreCounted}
use Rattle.pp_claims.proofs.Lists.{list_at, claims_inserts}
use Rattle.pp_claims.proofs.Owned.{none_counted}
use Rattle.pp_replay.specs.Replay.{IsRunUnder, meaning_of, share_of}
use Rattle.pp_tally.specs.Parts.{HasNoBytes}
use Rattle.pp_tally.specs.Tally.{TallyView, tally_view, Cause, WasRead, IsTally}
use Rattle.pp_tally.specs.Text.{head_text, values_text, tally_text}
use Rattle.pp_tally.proofs.Values.{values_same}

-- want of memory once the bytes were read
pub refused : (words : List (List ℕ)) (settings : Settings) (read now was : Device) (bytes : List ℕ) (tally : TallyView) (w : Way)
    → Says words settings → WasRead read now bytes → w ≡ way.NoMemory → Cause w words (world read was) (world now was) tally
refused words settings read now was bytes tally w said reading is =
    rw is (no_memory_read words settings (world read was) (world now was) said refl reading.unfailed)

-- the source gives no bytes
pub unread : (words : List (List ℕ)) (settings : Settings) (read now was : Device) (tally : TallyView) (w : Way) → Says words settings
    → HasNoBytes w read now → Cause w words (world read was) (world now was) tally
unread words settings read now was tally way.Unread said none =
    record { settings = settings; said_by = said; came = none; quiet = refl }
unread words settings read now was tally way.TooLong said none =
    record { settings = settings; said_by = said; came = none; quiet = refl }
unread words settings read now was tally way.NoMemory said none =
    no_memory_read words settings (world read was) (world now was) said refl none
unread words settings read now was tally way.Answered said none = absurd none
unread words settings read now was tally (way.Partly full lost) said none = absurd none
unread words settings read now was tally way.BadWords said none = absurd none
unread words settings read now was tally (way.BadLine line why) said none = absurd none
unread words settings read now was tally way.Unwritten said none = absurd none

-- the text of a table that counts the bytes is that of the tally
pub text_is : (bytes total : List ℕ) (long pieces : ℕ) → long ≡ length bytes → pieces ≡ pieces_of (length bytes)
    → Counted (replicate 256 0) total bytes
    → head_text long pieces ++ values_text (λ value. get_or total value 0) 256 ≡ tally_text bytes
text_is bytes total long pieces a b counted =
    ap (λ (n : ℕ). head_text n pieces ++ values_text (λ value. get_or total value 0) 256) a
    ∙ (ap (λ (n : ℕ). head_text (length bytes) n ++ values_text (λ value. get_or total value 0) 256) b
    ∙ ap (λ (l : List ℕ). head_text (length bytes) (pieces_of (length bytes)) ++ l)
    (values_same (λ value. get_or total value 0) (λ value. times value bytes) 256
    (λ value low. let each = counted.each value low in let none = none_counted 256 value in omega (arith, each, none))))

module _ (words : List (List ℕ)) (settings : Settings) (bytes : List ℕ) (answers : List (List Answer)) (counts : List (List ℕ))
    (rest : List ℕ) (run : RunView) (read was now after : Device) (said_by : Says words settings) (reading : WasRead read now bytes)
    (under : IsRunUnder settings (all_claims settings.callers (pieces_of (length bytes))) answers run)
    (owned : AreOwned (pieces_of (length bytes)) (all_claims settings.callers (pieces_of (length bytes))) answers (contents_of run.log))
    (counted : AreCounted bytes (pieces_of (length bytes)) (all_claims settings.callers (pieces_of (length bytes))) answers counts rest)
  where
    abbrev tallied : IsTally words (world read was) (world now after) (tally_view answers counts rest (Some run))
    tallied = record {
      settings = settings;
      said_by = said_by;
      bytes = bytes;
      read = reading;
      run = run;
      run_is = refl;
      under = under;
      owned = owned;
      counted = counted;
      none_full = λ enough. under.none_full (λ c calls at.
          let is = list_at settings.callers (pieces_of (length bytes)) c calls at in
          let all : inserts calls ≡ pieces_of (length bytes) =
          ap inserts is.1 ∙ claims_inserts settings.callers (pieces_of (length bytes)) c in
          subst (λ (n : ℕ). (meaning_of settings.map).need * n ≤ share_of settings.map run.sizes c) (sym all) (enough c is.0));
    }

    -- a run of claims whose text was printed in a way is the cause of a tally's ending in that way
    pub cause_of : (w : Way) → IsFinished w was after 0 0 (tally_text bytes)
        → Cause w words (world read was) (world now after) (tally_view answers counts rest (Some run))
    cause_of way.Answered is = record { is_tally = tallied; written = is.0; unfailed = is.1 }
    cause_of way.Unwritten is = record { is_tally = tallied; rose = is.0; written = is.1 }
    cause_of way.NoMemory is = no_memory_read words settings (world read was) (world now after) said_by is reading.unfailed
    cause_of (way.Partly full lost) is = absurd (omega (arith, is.2, is.3, is.4))
    cause_of way.BadWords is = absurd is
    cause_of (way.BadLine line why) is = absurd is
    cause_of way.Unread is = absurd is
    cause_of way.TooLong is = absurd is
