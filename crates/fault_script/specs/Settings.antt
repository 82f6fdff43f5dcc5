-- The settings of a script (ours): numbers that a line may set, each once; until one does, each has its default.
use Rattle.std.specs.Prelude.{ℕ, ◌-◌, ◌^◌, ◌&&◌, ◌||◌, Bool, true, false, nat_eq, nat_le, nat_lt, min, List, codes, Option, Some, None, Result, Ok, Err, if◌then◌else◌}
use Rattle.fab_base.specs.declared.limits.TheConstants.{MOST_REQUESTS, MOST_SLOTS}
use Rattle.fault_script.specs.declared.faults.Why.{Why}
use Rattle.fault_script.specs.declared.faults.Why.TheVariants.{BadWord, OutOfRange, Double}
use Rattle.fault_script.specs.declared.settings.TheConstants.{MOST_TURNS, MOST_PATIENCE}
use Rattle.fault_script.specs.declared.settings.Setting.{Setting}
use Rattle.fault_script.specs.declared.table.Kind.{Kind}
use Rattle.fault_script.specs.declared.table.Row.{Row}
use Rattle.fault_script.specs.Checks.{and_then}
use Rattle.fault_script.specs.Words.{same_word}
use Rattle.fault_script.specs.Fields.{is_within, one_number}

-- ---- the table

-- the setting whose line begins with this word
abbrev pub kind_of_word : List ℕ → Option Kind
kind_of_word word =
    if same_word word (codes "batch") then Some Kind.Batch
    else if same_word word (codes "window") then Some Kind.Window
    else if same_word word (codes "interval") then Some Kind.Interval
    else if same_word word (codes "seed") then Some Kind.Seed
    else if same_word word (codes "turns") then Some Kind.Turns
    else if same_word word (codes "patience") then Some Kind.Patience
    else if same_word word (codes "height") then Some Kind.Height
    else None

-- the least and the greatest number that a line may set, and the number that holds where none does
abbrev pub row_of : Kind → Row
row_of Kind.Batch = record { least = 1; greatest = MOST_REQUESTS; default = 8 }
row_of Kind.Window = record { least = 1; greatest = MOST_SLOTS; default = 16 }
row_of Kind.Interval = record { least = 1; greatest = MOST_SLOTS; default = 8 }
row_of Kind.Seed = record { least = 0; greatest = 2 ^ 64 - 1; default = 0 }
row_of Kind.Turns = record { least = 1; greatest = MOST_TURNS; default = 100000 }
row_of Kind.Patience = record { least = 0; greatest = MOST_PATIENCE; default = 10 }
row_of Kind.Height = record { least = 5; greatest = 10; default = 10 }

-- the heights that a key's tree may have
abbrev pub is_height : ℕ → Bool
is_height n = nat_eq n 5 || nat_eq n 10

-- whether a number of the range may be set
abbrev pub is_allowed : Kind → ℕ → Bool
is_allowed Kind.Height n = is_height n
is_allowed kind n = true

-- ---- one setting

-- until a line sets it
abbrev pub unset : Kind → Setting
unset kind = record { value = (row_of kind).default; given = false }

-- a number is set just once
abbrev pub set_once : Setting → ℕ → Result Setting Why
set_once before n = if before.given then Err Double else Ok (record { value = n; given = true })

-- ---- all of them

pub record Settings : Type 0 where
  pub batch : Setting
  pub window : Setting
  pub interval : Setting
  pub seed : Setting
  pub turns : Setting
  pub patience : Setting
  pub height : Setting

-- until a line sets one
abbrev pub default_settings : Settings
default_settings = record {
  batch = unset Kind.Batch;
  window = unset Kind.Window;
  interval = unset Kind.Interval;
  seed = unset Kind.Seed;
  turns = unset Kind.Turns;
  patience = unset Kind.Patience;
  height = unset Kind.Height;
}

abbrev pub setting_of : Settings → Kind → Setting
setting_of settings Kind.Batch = settings.batch
setting_of settings Kind.Window = settings.window
setting_of settings Kind.Interval = settings.interval
setting_of settings Kind.Seed = settings.seed
setting_of settings Kind.Turns = settings.turns
setting_of settings Kind.Patience = settings.patience
setting_of settings Kind.Height = settings.height

abbrev pub with_set : Settings → Kind → Setting → Settings
with_set settings Kind.Batch setting = record settings { batch = setting }
with_set settings Kind.Window setting = record settings { window = setting }
with_set settings Kind.Interval setting = record settings { interval = setting }
with_set settings Kind.Seed setting = record settings { seed = setting }
with_set settings Kind.Turns setting = record settings { turns = setting }
with_set settings Kind.Patience setting = record settings { patience = setting }
with_set settings Kind.Height setting = record settings { height = setting }

-- ---- a line

-- the least window that a line may still set: an interval that a line above set is to fit into it
abbrev pub least_window : Settings → ℕ
least_window settings = if settings.interval.given then settings.interval.value else (row_of Kind.Window).least

-- the least number that a line may set
abbrev pub least_now : Settings → Kind → ℕ
least_now settings Kind.Window = least_window settings
least_now settings kind = (row_of kind).least

-- the greatest: an interval is no more than the window, which is its default where no line above set it
abbrev pub greatest_now : Settings → Kind → ℕ
greatest_now settings Kind.Interval = settings.window.value
greatest_now settings kind = (row_of kind).greatest

abbrev pub allowed : Kind → ℕ → Result ℕ Why
allowed kind n = if is_allowed kind n then Ok n else Err OutOfRange

-- `WORD N`: just one word, which spells a number that may be set, and no line above set one
abbrev pub setting_line : Settings → Kind → List (List ℕ) → Result Settings Why
setting_line settings kind words =
    and_then (one_number (least_now settings kind) (greatest_now settings kind) words) (λ n.
    and_then (allowed kind n) (λ n.
    and_then (set_once (setting_of settings kind) n) (λ setting.
    Ok (with_set settings kind setting))))

-- a first word that begins no setting's line is unknown
abbrev pub line_of_setting : Settings → List (List ℕ) → Option Kind → Result Settings Why
line_of_setting settings words None = Err BadWord
line_of_setting settings words (Some kind) = setting_line settings kind words

-- the first word of a line decides which setting it sets
abbrev pub setting_of_kind : Settings → List ℕ → List (List ℕ) → Result Settings Why
setting_of_kind settings kind words = line_of_setting settings words (kind_of_word kind)

-- ---- in the end

-- the interval in the end: what a line set, else the lesser of its default and the window
abbrev pub interval_of : Settings → ℕ
interval_of settings = if settings.interval.given then settings.interval.value else min settings.interval.value settings.window.value

-- whether each setting is in its range
abbrev pub are_settings : ℕ → ℕ → ℕ → ℕ → ℕ → ℕ → ℕ → Bool
are_settings batch window interval seed turns patience height =
    is_within 1 MOST_REQUESTS batch
    && (is_within 1 MOST_SLOTS window
    && (is_within 1 window interval
    && (nat_lt seed (2 ^ 64)
    && (is_within 1 MOST_TURNS turns
    && (nat_le patience MOST_PATIENCE
    && is_height height)))))
