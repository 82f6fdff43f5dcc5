-- The lines of a script (ours), each by its first words.
use Rattle.std.specs.Prelude.{ℕ, ◌&&◌, Bool, false, nat_eq, nat_le, List, [], ◌∷◌, codes, Result, Ok, Err, if◌then◌else◌}
use Rattle.std.specs.List.{list_all}
use Rattle.fab_base.specs.declared.limits.TheConstants.{MOST_MEMBERS}
use Rattle.fab_base.specs.declared.requests.Op.TheVariants.{Put, Get, Cut, Swap}
use Rattle.fault_script.specs.declared.faults.Why.{Why}
use Rattle.fault_script.specs.declared.faults.Why.TheVariants.{BadWord, Missing}
use Rattle.fault_script.specs.Checks.{and_then}
use Rattle.fault_script.specs.Words.{words_of, same_word, one_word, two_words, three_words}
use Rattle.fault_script.specs.declared.settings.TheConstants.{MOST_TURNS}
use Rattle.fault_script.specs.Fields.{one_number, number_within, key_of, value_of}
use Rattle.fault_script.specs.Drafts.{Draft, declared_cluster, declared_client, declared_replica, with_cluster, with_client, with_request, with_timeout, with_setting}

-- `cluster SIZE`
abbrev pub cluster_line : Draft → List (List ℕ) → Result Draft Why
cluster_line draft words =
    and_then (one_number 1 MOST_MEMBERS words) (λ size.
    with_cluster draft size)

-- `client CLUSTER`
abbrev pub client_line : Draft → List (List ℕ) → Result Draft Why
client_line draft words =
    and_then (one_word words) (λ home.
    and_then (declared_cluster draft home) (λ home.
    with_client draft home))

-- `request CLIENT put KEY VALUE`
abbrev pub put_line : Draft → List ℕ → List (List ℕ) → Result Draft Why
put_line draft client fields =
    and_then (two_words fields) (λ f.
    and_then (declared_client draft client) (λ client.
    and_then (key_of f.0) (λ k.
    and_then (value_of f.1) (λ v.
    with_request draft client (Put k v)))))

-- `request CLIENT get KEY`
abbrev pub get_line : Draft → List ℕ → List (List ℕ) → Result Draft Why
get_line draft client fields =
    and_then (one_word fields) (λ f.
    and_then (declared_client draft client) (λ client.
    and_then (key_of f) (λ k.
    with_request draft client (Get k))))

-- `request CLIENT cut KEY`
abbrev pub cut_line : Draft → List ℕ → List (List ℕ) → Result Draft Why
cut_line draft client fields =
    and_then (one_word fields) (λ f.
    and_then (declared_client draft client) (λ client.
    and_then (key_of f) (λ k.
    with_request draft client (Cut k))))

-- `request CLIENT swap KEY EXPECTED FRESH`
abbrev pub swap_line : Draft → List ℕ → List (List ℕ) → Result Draft Why
swap_line draft client fields =
    and_then (three_words fields) (λ f.
    and_then (declared_client draft client) (λ client.
    and_then (key_of f.0) (λ k.
    and_then (value_of f.1) (λ expected.
    and_then (value_of f.2) (λ fresh.
    with_request draft client (Swap k expected fresh))))))

-- the kind word of a request decides its fields
abbrev pub request_of_kind : Draft → List ℕ → List ℕ → List (List ℕ) → Result Draft Why
request_of_kind draft client kind fields =
    if same_word kind (codes "put") then put_line draft client fields
    else if same_word kind (codes "get") then get_line draft client fields
    else if same_word kind (codes "cut") then cut_line draft client fields
    else if same_word kind (codes "swap") then swap_line draft client fields
    else Err BadWord

-- `request CLIENT KIND ..`
abbrev pub request_line : Draft → List (List ℕ) → Result Draft Why
request_line draft [] = Err Missing
request_line draft (client ∷ []) = Err Missing
request_line draft (client ∷ kind ∷ fields) = request_of_kind draft client kind fields

-- `timeout REPLICA ENTRIES`
abbrev pub timeout_line : Draft → List (List ℕ) → Result Draft Why
timeout_line draft words =
    and_then (two_words words) (λ f.
    and_then (declared_replica draft f.0) (λ replica.
    and_then (number_within 0 MOST_TURNS f.1) (λ entries.
    with_timeout draft replica entries)))

-- the first word of a line decides the rest; what declares nothing sets something
abbrev pub line_of_kind : Draft → List ℕ → List (List ℕ) → Result Draft Why
line_of_kind draft kind words =
    if same_word kind (codes "cluster") then cluster_line draft words
    else if same_word kind (codes "client") then client_line draft words
    else if same_word kind (codes "request") then request_line draft words
    else if same_word kind (codes "timeout") then timeout_line draft words
    else with_setting draft kind words

-- a line without words is skipped
abbrev pub line_of_words : Draft → List (List ℕ) → Result Draft Why
line_of_words draft [] = Ok draft
line_of_words draft (kind ∷ words) = line_of_kind draft kind words

-- a comment begins with a number sign
abbrev pub is_comment : List ℕ → Bool
is_comment [] = false
is_comment (b ∷ rest) = nat_eq b 35

-- from a space to a tilde
abbrev pub is_printable : ℕ → Bool
is_printable b = nat_le 32 b && nat_le b 126

-- one line: a comment is skipped, whatever it holds
abbrev pub line : Draft → List ℕ → Result Draft Why
line draft text =
    if is_comment text then Ok draft
    else if list_all is_printable text then line_of_words draft (words_of text)
    else Err BadWord
