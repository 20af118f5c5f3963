-- The rule under which an entry falls, whether or not it may follow.
use Rattle.std.specs.Prelude.{◌≡◌, ◌⊎◌, ℕ, MatchBool}
use Rattle.fdp_base.specs.declared.command.Command.{Command}
use Rattle.fdp_base.specs.declared.entry.Entry.{Entry}
use Rattle.fdp_base.specs.declared.entry.Entry.TheVariants as entries
use Rattle.fdp_base.specs.declared.entry.Reply.{Reply}
use Rattle.fdp_rules.specs.Change.{is_media_error}
use Rattle.fdp_base.specs.CommandKinds.{is_write}
use Rattle.fdp_rules.specs.PlainState.{Going, PlainState}
use Rattle.fdp_rules.specs.Step.{IsGoing}
use Rattle.fdp_plain_judge.specs.declared.rule.Rule.{Rule}
use Rattle.fdp_plain_judge.specs.declared.rule.Rule.TheVariants as rules

-- the number of a rule
abbrev pub number_of : Rule → ℕ
number_of rules.PlainReply = 1
number_of rules.WriteRefusal = 2
number_of rules.WriteEnd = 3
number_of rules.Started = 4
number_of rules.Placed = 5
number_of rules.Copied = 6
number_of rules.Moved = 7
number_of rules.Erased = 8
number_of rules.Retired = 9
number_of rules.Aside = 10
number_of rules.Shut = 11
number_of rules.Worn = 12
number_of rules.Reopened = 13
number_of rules.MediaError = 14

-- the completion of a write: of one that is going in its queue with this number and this command, or of another
abbrev pub IsRuleOfWrite : PlainState → ℕ → ℕ → Command → Rule → Type 0
IsRuleOfWrite s queue number command rule =
    ((g : Going) × IsGoing s queue number command g × (rule ≡ rules.WriteEnd))
    ⊎ (((g : Going) → IsGoing s queue number command g → ⊥) × (rule ≡ rules.WriteRefusal))

-- the completion of a command: with a media error, of a write, or of another
abbrev pub IsRuleOfHost : PlainState → ℕ → ℕ → Command → Reply → Rule → Type 0
IsRuleOfHost s queue number command reply rule =
    MatchBool (is_media_error reply.status)
    (rule ≡ rules.MediaError)
    (MatchBool (is_write command) (IsRuleOfWrite s queue number command rule) (rule ≡ rules.PlainReply))

-- an entry falls under a rule
abbrev pub FallsUnder : PlainState → Entry → Rule → Type 0
FallsUnder s (entries.Host h) rule = IsRuleOfHost s h.queue h.number h.command h.reply rule
FallsUnder s (entries.Started started) rule = rule ≡ rules.Started
FallsUnder s (entries.Placed p) rule = rule ≡ rules.Placed
FallsUnder s (entries.Copied c) rule = rule ≡ rules.Copied
FallsUnder s (entries.Moved m) rule = rule ≡ rules.Moved
FallsUnder s (entries.Erased e) rule = rule ≡ rules.Erased
FallsUnder s (entries.Retired r) rule = rule ≡ rules.Retired
FallsUnder s (entries.Aside a) rule = rule ≡ rules.Aside
FallsUnder s (entries.Shut shut) rule = rule ≡ rules.Shut
FallsUnder s (entries.Worn w) rule = rule ≡ rules.Worn
FallsUnder s entries.Reopened rule = rule ≡ rules.Reopened
