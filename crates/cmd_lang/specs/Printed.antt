-- What is printed of a reply: its lines, then `ok`; or one line with the refusal's number, name and numbers.
use Rattle.std.specs.Prelude.{ℕ, Bool, true, false, List, [], ◌∷◌, ◌++◌, codes, decimal, flat_map, if◌then◌else◌}
use Rattle.hex.specs.Hex.{encode_lower}
use Rattle.vol_bytes.specs.NameText.{name_text}
use Rattle.tree_model.specs.declared.reply.Answer.{Answer}
use Rattle.tree_model.specs.declared.reply.Answer.TheVariants as answer
use Rattle.tree_model.specs.declared.reply.Listed.{Listed}
use Rattle.tree_model.specs.declared.reply.ShownLink.{ShownLink}
use Rattle.tree_model.specs.declared.reply.ShownStream.{ShownStream}
use Rattle.tree_model.specs.declared.reply.No.{No}
use Rattle.tree_model.specs.declared.reply.No.TheVariants as no
use Rattle.tree_model.specs.declared.reply.Reply.{Reply}
use Rattle.tree_model.specs.declared.reply.Reply.TheVariants as reply
use Rattle.cmd_lang.specs.Words.{hexadecimal}

-- a word behind others, with a space between
abbrev pub and_word : List ℕ → List ℕ
and_word word = 0x20 ∷ word

-- bytes: their digits, or `-` for none
abbrev pub bytes_text : List ℕ → List ℕ
bytes_text [] = codes "-"
bytes_text (byte ∷ bytes) = encode_lower (byte ∷ bytes)

-- a path: `/` for the root, or each name with a `/` in front
abbrev pub step_text : List ℕ → List ℕ
step_text name = 0x2F ∷ name_text name

abbrev pub path_word : List (List ℕ) → List ℕ
path_word [] = codes "/"
path_word (name ∷ names) = flat_map step_text (name ∷ names)

abbrev pub kind_text : Bool → List ℕ
kind_text dir = if dir then codes "dir" else codes "file"

-- `ls`: a kind and a name
abbrev pub listed_text : Listed → List ℕ
listed_text listed = kind_text listed.dir ++ (and_word (name_text listed.name) ++ codes "\n")

-- `links`: a namespace and a path
abbrev pub link_text : ShownLink → List ℕ
link_text link = codes "link" ++ and_word (decimal link.space) ++ (and_word (path_word link.path) ++ codes "\n")

abbrev pub stream_word : Bool → List ℕ
stream_word packed = if packed then codes "packed" else codes "stream"

-- `streams`: a size, and the name, where the stream has one
abbrev pub name_word : List ℕ → List ℕ
name_word [] = []
name_word (unit ∷ units) = and_word (name_text (unit ∷ units))

abbrev pub stream_text : ShownStream → List ℕ
stream_text stream = stream_word stream.packed ++ and_word (decimal stream.size) ++ (name_word stream.name ++ codes "\n")

-- `stat`: a kind, the numbers of links and bytes, DOS flags, an id, and four times
abbrev pub stat_text : Bool → ℕ → ℕ → ℕ → ℕ → ℕ → ℕ → ℕ → ℕ → List ℕ
stat_text dir links size flags security created modified changed accessed =
    codes "stat" ++ and_word (kind_text dir) ++ and_word (decimal links) ++ and_word (decimal size) ++ and_word (hexadecimal 2 flags)
    ++ and_word (decimal security) ++ and_word (decimal created) ++ and_word (decimal modified) ++ and_word (decimal changed)
    ++ and_word (decimal accessed) ++ codes "\n"

-- `df`: all clusters, the free ones, all records, and the free ones
abbrev pub df_text : ℕ → ℕ → ℕ → ℕ → List ℕ
df_text clusters free records free_records =
    codes "df" ++ and_word (decimal clusters) ++ and_word (decimal free) ++ and_word (decimal records) ++ and_word
    (decimal free_records) ++ codes "\n"

-- what a run of generated lines comes to: how many there were, how many of them were done, and how many refused
abbrev pub made_text : ℕ → ℕ → ℕ → List ℕ
made_text count oks nos =
    codes "made" ++ and_word (decimal count) ++ and_word (decimal oks) ++ and_word (decimal nos) ++ codes "\n"

-- a name and a number, a name and flags, a name and bytes
abbrev pub number_text : List ℕ → ℕ → List ℕ
number_text name number = name ++ and_word (decimal number) ++ codes "\n"

abbrev pub flags_text : List ℕ → ℕ → List ℕ
flags_text name flags = name ++ and_word (hexadecimal 2 flags) ++ codes "\n"

abbrev pub data_text : List ℕ → List ℕ → List ℕ
data_text name bytes = name ++ (and_word (bytes_text bytes) ++ codes "\n")

-- `reparse`, before its bytes
abbrev pub tag_text : ℕ → List ℕ
tag_text tag = codes "reparse" ++ and_word (hexadecimal 4 tag)

-- the answers that are one line of few bytes, or none
abbrev pub is_short : Answer → Bool
is_short (answer.List listing) = false
is_short (answer.Links links) = false
is_short (answer.Data bytes) = false
is_short (answer.Streams streams) = false
is_short (answer.Sd bytes) = false
is_short (answer.Reparse tag bytes) = false
is_short (answer.ObjectId bytes) = false
is_short other = true

-- the lines before `ok`
abbrev pub answer_text : Answer → List ℕ
answer_text answer.Done = []
answer_text (answer.List listing) = flat_map listed_text listing
answer_text (answer.Stat dir links size flags security created modified changed accessed) = stat_text dir links size flags security created
    modified changed accessed
answer_text (answer.Links links) = flat_map link_text links
answer_text (answer.Data bytes) = data_text (codes "data") bytes
answer_text (answer.Streams streams) = flat_map stream_text streams
answer_text (answer.Attr flags) = flags_text (codes "attr") flags
answer_text (answer.Sec id) = number_text (codes "sec") id
answer_text (answer.Sd bytes) = data_text (codes "sd") bytes
answer_text (answer.Reparse tag bytes) = data_text (tag_text tag) bytes
answer_text (answer.ObjectId bytes) = data_text (codes "objid") bytes
answer_text (answer.Df clusters free records free_records) = df_text clusters free records free_records
answer_text (answer.Handle handle) = number_text (codes "handle") handle

-- a refusal's number and name
abbrev pub refusal_name : No → List ℕ
refusal_name no.Syntax = codes "1 Syntax"
refusal_name no.Long = codes "2 Long"
refusal_name no.NoHandle = codes "3 NoHandle"
refusal_name no.NotFound = codes "4 NotFound"
refusal_name no.NotDir = codes "5 NotDir"
refusal_name no.Reparse = codes "6 Reparse"
refusal_name no.Hidden = codes "7 Hidden"
refusal_name no.DosName = codes "8 DosName"
refusal_name no.BadName = codes "9 BadName"
refusal_name no.IsDir = codes "10 IsDir"
refusal_name no.NoStream = codes "11 NoStream"
refusal_name no.NoReparse = codes "12 NoReparse"
refusal_name no.Exists = codes "13 Exists"
refusal_name no.NotEmpty = codes "14 NotEmpty"
refusal_name no.Loop = codes "15 Loop"
refusal_name no.Packed = codes "16 Packed"
refusal_name no.BadTag = codes "17 BadTag"
refusal_name no.NoSecurity = codes "18 NoSecurity"
refusal_name no.TooBig = codes "19 TooBig"
refusal_name no.TooManyLinks = codes "20 TooManyLinks"
refusal_name no.TooManyHandles = codes "21 TooManyHandles"
refusal_name (no.Shared session handle) = codes "22 Shared"
refusal_name (no.TooManyParts length more) = codes "23 TooManyParts"
refusal_name no.TooDeep = codes "24 TooDeep"
refusal_name (no.MftFull need free) = codes "25 MftFull"
refusal_name (no.NoRoom need free) = codes "26 NoRoom"
refusal_name no.Memory = codes "27 Memory"
refusal_name no.Unbuilt = codes "28 Unbuilt"
refusal_name no.Linked = codes "30 Linked"

-- two numbers behind them
abbrev pub two_numbers : ℕ → ℕ → List ℕ
two_numbers a b = and_word (decimal a) ++ and_word (decimal b)

-- the numbers of those refusals that have some
abbrev pub refusal_numbers : No → List ℕ
refusal_numbers (no.Shared session handle) = two_numbers session handle
refusal_numbers (no.TooManyParts length more) = two_numbers length more
refusal_numbers (no.MftFull need free) = two_numbers need free
refusal_numbers (no.NoRoom need free) = two_numbers need free
refusal_numbers other = []

-- the line of a refusal
abbrev pub no_text : No → List ℕ
no_text refused = codes "no" ++ and_word (refusal_name refused) ++ refusal_numbers refused ++ codes "\n"

-- a reply that is no device fault
abbrev pub text_of : Reply → List ℕ
text_of (reply.Ok told) = answer_text told ++ codes "ok\n"
text_of (reply.No refused) = no_text refused
text_of reply.Device = []
