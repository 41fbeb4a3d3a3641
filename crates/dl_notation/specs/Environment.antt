-- What stands before a place: what the file has declared up to there, and what the lists around the place have named.
use Rattle.std.specs.Prelude.{ℕ, ℤ, pos, negsuc, ◌-ℤ◌, Bool, false, List, [], map, length, position, slice_get, Option, Some, None, option_and_then, codes, if◌then◌else◌}
use Rattle.std.specs.Option.{option_map}
use Rattle.std.specs.Str.{bytes_eq}
use Rattle.dl_term.specs.declared.syntax.Sort.{Sort}
use Rattle.dl_forms.specs.Context.{Text, look_up}

-- how many arguments a tag's messages have, and whether they can be received
pub record TagNames : Type 0 where
  pub arguments : ℕ
  pub is_received : Bool

-- the fields of a protocol, each with whether it is a row, its tags, and whether it has a coherence
pub record ProtocolNames : Type 0 where
  pub fields : List (Text × Bool)
  pub tags : List (Text × TagNames)
  pub is_coherent : Bool

pub record WorldNames : Type 0 where
  pub labels : List Text
  pub hooks : List Text

-- a procedure: its world, its parameters with their sorts, its locals, and the words of the commands that its points are
pub record ProcedureNames : Type 0 where
  pub world : Text
  pub parameters : List Text
  pub sorts : List Sort
  pub locals : List Text
  pub points : List Text

-- an obligation, by the texts and numbers of its name
pub record ObligationName : Type 0 where
  pub texts : List Text
  pub number : ℤ

pub record Environment : Type 0 where
  -- the names of all that the file has declared, fields and tags aside, and by kind
  pub declared : List Text
  pub nodes : List Text
  pub sorts : List (Text × Sort)
  pub protocols : List (Text × ProtocolNames)
  -- each hook with its client, and each invariant with its world
  pub hooks : List (Text × Text)
  pub worlds : List (Text × WorldNames)
  pub invariants : List (Text × Text)
  pub procedures : List (Text × ProcedureNames)
  -- the obligations that have a proof
  pub proved : List ObligationName
  -- the nodes and the enumerators with their values, and each label with its protocol's number
  pub words : List (Text × ℤ)
  pub labels : List (Text × ℕ)
  -- the names that quantifiers have bound, and those that other variables have had, in the whole file
  pub quantified : List Text
  pub others : List Text
  -- what the item has named: the variables, messages and hypotheses that are in scope, and a procedure's locals
  pub variables : List Text
  pub messages : List Text
  pub hypotheses : List Text
  pub locals : List Text
  -- a hypothesis that only the script behind the next one knows
  pub pending : List Text
  -- the protocol of the item, as far as it goes, and whether it is the one that `self` stands for
  pub own : ProtocolNames
  pub has_own : Bool
  -- the sorts of the parameters so far, and the sort just before
  pub parameters : List Sort
  pub sort : Option Sort
  -- a hook's core, the label just before, and the number of arguments of the tag just before, where it is known
  pub core : Text
  pub label : Text
  pub arguments : Option ℕ
  -- the procedure just before, the sorts of the constants that it still wants, and the words of the points so far
  pub procedure : Text
  pub wanted : List Sort
  pub points : List Text
  -- the word of an obligation, and which of the names that it still wants are messages
  pub obligation : Text
  pub named : List Bool
  -- what may stand once in a list and stood there before
  pub listed : List Text

abbrev pub no_protocol : ProtocolNames
no_protocol = record { fields = []; tags = []; is_coherent = false }

-- what a file begins with
abbrev pub nothing : Environment
nothing = record {
  declared = [];
  nodes = [];
  sorts = [];
  protocols = [];
  hooks = [];
  worlds = [];
  invariants = [];
  procedures = [];
  proved = [];
  words = [];
  labels = [];
  quantified = [];
  others = [];
  variables = [];
  messages = [];
  hypotheses = [];
  locals = [];
  pending = [];
  own = no_protocol;
  has_own = false;
  parameters = [];
  sort = None;
  core = [];
  label = [];
  arguments = None;
  procedure = [];
  wanted = [];
  points = [];
  obligation = [];
  named = [];
  listed = [];
}

-- ---- what a name stands for

abbrev pub int_sort : Sort
int_sort = record { low = negsuc 0x7fff_ffff_ffff_ffff; high = pos 0x7fff_ffff_ffff_ffff }

abbrev pub bool_sort : Sort
bool_sort = record { low = pos 0; high = pos 1 }

-- the numbers below a count
abbrev pub below : ℕ → Sort
below count = record { low = pos 0; high = pos count -ℤ pos 1 }

abbrev pub sort_named : Environment → Text → Option Sort
sort_named env name =
    if bytes_eq name (codes "int") then Some int_sort else
    if bytes_eq name (codes "bool") then Some bool_sort else
    if bytes_eq name (codes "node") then Some (below (length env.nodes)) else look_up name env.sorts

-- the number of a protocol
abbrev pub protocol_number : Environment → Text → Option ℕ
protocol_number env name = position (bytes_eq name) (map (λ (p : Text × ProtocolNames). p.0) env.protocols)

-- the protocol of a label
abbrev pub protocol_of : Environment → Text → Option ProtocolNames
protocol_of env label = option_map (λ (p : Text × ProtocolNames). p.1) (option_and_then (slice_get env.protocols) (look_up label env.labels))

-- a tag of a label
abbrev pub tag_of : Environment → Text → Text → Option TagNames
tag_of env label tag = option_and_then (λ (p : ProtocolNames). look_up tag p.tags) (protocol_of env label)

-- whether a field of a label is a row
abbrev pub row_of : Environment → Text → Text → Option Bool
row_of env label field = option_and_then (λ (p : ProtocolNames). look_up field p.fields) (protocol_of env label)

-- the arguments of a label's tag
abbrev pub arguments_of : Environment → Text → Text → Option ℕ
arguments_of env label tag = option_map (λ (t : TagNames). t.arguments) (tag_of env label tag)
