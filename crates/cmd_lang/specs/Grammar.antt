-- The grammar of script lines: one row a command.
use Rattle.std.specs.Prelude.{◌≡◌, ◌⊎◌, ℕ, ◌^◌, ◌<◌, ◌≤◌, List, [], ◌∷◌, codes, decimal, length, Option, Some}
use Rattle.tree_model.specs.declared.opens.Access.{Access}
use Rattle.tree_model.specs.declared.command.Command.{Command}
use Rattle.tree_model.specs.declared.command.Command.TheVariants as command
use Rattle.cmd_lang.specs.declared.verb.PathVerb.{PathVerb}
use Rattle.cmd_lang.specs.declared.verb.PathVerb.TheVariants as path_verb
use Rattle.cmd_lang.specs.declared.verb.Verb.{Verb}
use Rattle.cmd_lang.specs.declared.verb.Verb.TheVariants as verb
use Rattle.cmd_lang.specs.Words.{most_bytes, words_of, IsNumber, AreFlags, IsTag, AreDigits, IsHex, IsPath, IsTarget, IsAccess, IsShare}

-- the first word of a command that has a path alone
abbrev pub path_verb_text : PathVerb → List ℕ
path_verb_text path_verb.Ls = codes "ls"
path_verb_text path_verb.Stat = codes "stat"
path_verb_text path_verb.Links = codes "links"
path_verb_text path_verb.Create = codes "create"
path_verb_text path_verb.Mkdir = codes "mkdir"
path_verb_text path_verb.Rm = codes "rm"
path_verb_text path_verb.Rmdir = codes "rmdir"
path_verb_text path_verb.Streams = codes "streams"
path_verb_text path_verb.Attr = codes "attr"
path_verb_text path_verb.Sec = codes "sec"
path_verb_text path_verb.Reparse = codes "reparse"
path_verb_text path_verb.Rmreparse = codes "rmreparse"
path_verb_text path_verb.Objid = codes "objid"

-- and that command
abbrev pub path_command : PathVerb → List (List ℕ) → Command
path_command path_verb.Ls path = command.Ls path
path_command path_verb.Stat path = command.Stat path
path_command path_verb.Links path = command.Links path
path_command path_verb.Create path = command.Create path
path_command path_verb.Mkdir path = command.Mkdir path
path_command path_verb.Rm path = command.Rm path
path_command path_verb.Rmdir path = command.Rmdir path
path_command path_verb.Streams path = command.Streams path
path_command path_verb.Attr path = command.Attr path
path_command path_verb.Sec path = command.Sec path
path_command path_verb.Reparse path = command.Reparse path
path_command path_verb.Rmreparse path = command.Rmreparse path
path_command path_verb.Objid path = command.Objid path

-- the first word of a command
abbrev pub verb_text : Verb → List ℕ
verb_text (verb.OfPath which) = path_verb_text which
verb_text verb.Time = codes "time"
verb_text verb.Cat = codes "cat"
verb_text verb.Read = codes "read"
verb_text verb.Ln = codes "ln"
verb_text verb.Mv = codes "mv"
verb_text verb.Write = codes "write"
verb_text verb.Truncate = codes "truncate"
verb_text verb.Punch = codes "punch"
verb_text verb.Rmstream = codes "rmstream"
verb_text verb.Setattr = codes "setattr"
verb_text verb.Setsec = codes "setsec"
verb_text verb.Sd = codes "sd"
verb_text verb.Mkreparse = codes "mkreparse"
verb_text verb.Df = codes "df"
verb_text verb.Open = codes "open"
verb_text verb.Hread = codes "hread"
verb_text verb.Hwrite = codes "hwrite"
verb_text verb.Close = codes "close"

-- so many words
abbrev pub One : List (List ℕ) → (List ℕ → Type 0) → Type 0
One words P = (a : List ℕ) × (words ≡ a ∷ []) × P a

abbrev pub Two : List (List ℕ) → (List ℕ → List ℕ → Type 0) → Type 0
Two words P = (a b : List ℕ) × (words ≡ a ∷ b ∷ []) × P a b

abbrev pub Three : List (List ℕ) → (List ℕ → List ℕ → List ℕ → Type 0) → Type 0
Three words P = (a b c : List ℕ) × (words ≡ a ∷ b ∷ c ∷ []) × P a b c

-- a path alone, a target alone, two paths
abbrev pub OnePath : (List (List ℕ) → Command) → List (List ℕ) → Command → Type 0
OnePath make words said = (path : List (List ℕ)) × One words (λ a. IsPath a path) × (said ≡ make path)

abbrev pub OneTarget : (List (List ℕ) → Option (List ℕ) → Command) → List (List ℕ) → Command → Type 0
OneTarget make words said = (path : List (List ℕ)) × (stream : Option (List ℕ)) × One words (λ a. IsTarget a path stream)
    × (said ≡ make path stream)

abbrev pub TwoPaths : (List (List ℕ) → List (List ℕ) → Command) → List (List ℕ) → Command → Type 0
TwoPaths make words said = (old new : List (List ℕ)) × Two words (λ a b. IsPath a old × IsPath b new) × (said ≡ make old new)

-- a target and a range of it, a place and a length in bytes
abbrev pub AreRange : List (List ℕ) → List (List ℕ) → Option (List ℕ) → ℕ → ℕ → Type 0
AreRange words path stream at len = Three words (λ a b c. IsTarget a path stream × IsNumber (2 ^ 64) b at × IsNumber (2 ^ 64) c len)

abbrev pub RangeOfTarget : (List (List ℕ) → Option (List ℕ) → ℕ → ℕ → Command) → List (List ℕ) → Command → Type 0
RangeOfTarget make words said = (path : List (List ℕ)) × (stream : Option (List ℕ)) × (at len : ℕ)
    × AreRange words path stream at len × (said ≡ make path stream at len)

-- a number of 32 bits alone
abbrev pub OneId : (ℕ → Command) → List (List ℕ) → Command → Type 0
OneId make words said = (id : ℕ) × One words (λ a. IsNumber (2 ^ 32) a id) × (said ≡ make id)

-- what the words behind the first one make of a command
abbrev pub Row : Verb → List (List ℕ) → Command → Type 0
Row (verb.OfPath which) words said = OnePath (path_command which) words said
Row verb.Time words said = (now : ℕ) × One words (λ a. IsNumber (2 ^ 64) a now) × (said ≡ command.Time now)
Row verb.Cat words said = OneTarget command.Cat words said
Row verb.Read words said = RangeOfTarget command.Read words said
Row verb.Ln words said = TwoPaths command.Ln words said
Row verb.Mv words said = TwoPaths command.Mv words said
Row verb.Write words said = (path : List (List ℕ)) × (stream : Option (List ℕ)) × (at : ℕ) × (bytes : List ℕ)
    × Three words (λ a b c. IsTarget a path stream × IsNumber (2 ^ 64) b at × AreDigits c bytes)
    × (said ≡ command.Write path stream at bytes)
Row verb.Truncate words said = (path : List (List ℕ)) × (stream : Option (List ℕ)) × (size : ℕ)
    × Two words (λ a b. IsTarget a path stream × IsNumber (2 ^ 64) b size) × (said ≡ command.Truncate path stream size)
Row verb.Punch words said = RangeOfTarget command.Punch words said
Row verb.Rmstream words said = (path : List (List ℕ)) × (name : List ℕ) × One words (λ a. IsTarget a path (Some name))
    × (said ≡ command.Rmstream path name)
Row verb.Setattr words said = (path : List (List ℕ)) × (flags : ℕ) × Two words (λ a b. IsPath a path × AreFlags b flags)
    × (said ≡ command.Setattr path flags)
Row verb.Setsec words said = (path : List (List ℕ)) × (id : ℕ) × Two words (λ a b. IsPath a path × IsNumber (2 ^ 32) b id)
    × (said ≡ command.Setsec path id)
Row verb.Sd words said = OneId command.Sd words said
Row verb.Mkreparse words said = (path : List (List ℕ)) × (tag : ℕ) × (bytes : List ℕ)
    × Three words (λ a b c. IsPath a path × IsTag b tag × IsHex c bytes) × (said ≡ command.Mkreparse path tag bytes)
Row verb.Df words said = (words ≡ []) × (said ≡ command.Df)
Row verb.Open words said = (path : List (List ℕ)) × (stream : Option (List ℕ)) × (access share : Access)
    × Three words (λ a b c. IsTarget a path stream × IsAccess b access × IsShare c share) × (said ≡ command.Open path stream access share)
Row verb.Hread words said = (handle at len : ℕ)
    × Three words (λ a b c. IsNumber (2 ^ 32) a handle × IsNumber (2 ^ 64) b at × IsNumber (2 ^ 64) c len)
    × (said ≡ command.Hread handle at len)
Row verb.Hwrite words said = (handle at : ℕ) × (bytes : List ℕ)
    × Three words (λ a b c. IsNumber (2 ^ 32) a handle × IsNumber (2 ^ 64) b at × AreDigits c bytes)
    × (said ≡ command.Hwrite handle at bytes)
Row verb.Close words said = OneId command.Close words said

-- the words are a command
abbrev pub IsCommand : List (List ℕ) → Command → Type 0
IsCommand [] said = ⊥
IsCommand (first ∷ words) said = (which : Verb) × (first ≡ verb_text which) × Row which words said

-- `@K`, K from 0 to 15
pub record IsSession (text : List ℕ) (session : ℕ) : Type 0 where
  pub written : text ≡ 0x40 ∷ decimal session
  pub below : session < 16

-- the words are a session and a command of it; without a session it is 0
abbrev pub AreWords : List (List ℕ) → ℕ → Command → Type 0
AreWords [] session said = ⊥
AreWords (first ∷ words) session said =
    (IsSession first session × IsCommand words said) ⊎ ((session ≡ 0) × IsCommand (first ∷ words) said)

-- A line of a script: at most 70,000 bytes, without the byte that ends it.
pub record IsLine (line : List ℕ) (session : ℕ) (said : Command) : Type 0 where
  pub short : length line ≤ most_bytes
  pub words : AreWords (words_of line) session said
