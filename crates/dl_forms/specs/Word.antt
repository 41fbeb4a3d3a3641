-- The word of a head.
use Rattle.std.specs.Prelude.{[], codes}
use Rattle.dl_term.specs.declared.syntax.Part.{Part}
use Rattle.dl_term.specs.declared.syntax.Part.TheVariants as part
use Rattle.dl_forms.specs.declared.head.Head.{Head}
use Rattle.dl_forms.specs.declared.head.Head.TheVariants.{Get, Len, Id, From, To, Live, Arg, Add, Sub, Mul, If, Eq, Lt, Le, Not, And, Or, Implies, All, Some, Each, Any, Other}
use Rattle.dl_forms.specs.Context.{Text}

abbrev pub word_of : Head → Text
word_of Get = codes "get"
word_of Len = codes "len"
word_of Id = codes "id"
word_of From = codes "from"
word_of To = codes "to"
word_of Live = codes "live"
word_of Arg = codes "arg"
word_of Add = codes "+"
word_of Sub = codes "-"
word_of Mul = codes "*"
word_of If = codes "if"
word_of Eq = codes "="
word_of Lt = codes "<"
word_of Le = codes "<="
word_of Not = codes "not"
word_of And = codes "and"
word_of Or = codes "or"
word_of Implies = codes "implies"
word_of All = codes "all"
word_of Some = codes "some"
word_of Each = codes "each"
word_of Any = codes "any"
word_of Other = []

-- the head of a part of a message
abbrev pub head_of_part : Part → Head
head_of_part part.Id = Id
head_of_part part.From = From
head_of_part part.To = To
head_of_part part.Live = Live
head_of_part (part.Arg k) = Arg
