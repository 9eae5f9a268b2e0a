-- The output of a run over lines, if the written octets are known.
use Rattle.std.specs.Prelude.{◌≡◌, ℕ, ◌-◌, ◌^◌, suc, List, [], ◌++◌, length, Option, Some, None, IfSome, ⊤}
use Rattle.std.specs.Io.KnownBytes.{Appends}
use Rattle.pb_lines.specs.Lines.{cut_lines}
use Rattle.pb_messages.specs.declared.fault.CommandFault.{CommandFault}
use Rattle.pb_messages.specs.declared.fault.CommandFault.TheVariants.{Steps}
use Rattle.pb_cmd_flat.specs.Answers.{Answers, IsFlatText, IsFlatBeginning}
use Rattle.pb_cmd_flat.specs.Receipts.{Receipt}

-- the output for the whole input was written after the earlier octets
abbrev pub Prints : ℕ → ℕ → Option (List ℕ) → Option (List ℕ) → Option (List ℕ) → Type 0
Prints limit ports input before after = IfSome input (λ octets. (text : List ℕ) × Appends before after text × IsFlatText limit ports octets text)

-- the least number of frames before a fault: a run that reached the limit of steps had received so many
abbrev pub least_frames : CommandFault → ℕ
least_frames Steps = 2 ^ 60 - 1
least_frames other = 0

-- the output for the first lines was written, each line's output whole
abbrev pub PrintsBeginning : CommandFault → ℕ → ℕ → Option (List ℕ) → Option (List ℕ) → Option (List ℕ) → Type 0
PrintsBeginning fault limit ports input before after =
    IfSome input (λ octets. (text : List ℕ) × Appends before after text × IsFlatBeginning (least_frames fault) limit ports octets text)

-- before line n: the output of the earlier lines is written, and the remaining lines are those of the held and the
-- unread octets
pub record IsUpTo (limit ports n : ℕ) (octets held rest : List ℕ) (before after : Option (List ℕ)) (got : List Receipt) : Type 0 where
  pub front : List (List ℕ)
  pub lines : cut_lines limit octets ≡ front ++ cut_lines limit (held ++ rest)
  pub number : n ≡ suc (length front)
  pub text : List ℕ
  pub written : Appends before after text
  pub answers : Answers limit ports 1 front [] got text

abbrev pub Progress : ℕ → ℕ → ℕ → Option (List ℕ) → List ℕ → Option (List ℕ) → Option (List ℕ) → Option (List ℕ) → List Receipt → Type 0
Progress limit ports n None held left before after got = ⊤
Progress limit ports n (Some octets) held None before after got = ⊥
Progress limit ports n (Some octets) held (Some rest) before after got = IsUpTo limit ports n octets held rest before after got
