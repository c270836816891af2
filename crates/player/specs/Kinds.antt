-- The form that the law gives the records of a kind: that of their row.
use Rattle.std.specs.Prelude.{Option, None, Some}
use Rattle.script.specs.Forms.{Form, form_of, plain, lengthy, other_form}
use Rattle.player.specs.declared.record.Kind.{Kind}
use Rattle.player.specs.declared.record.Kind.TheVariants.{Make, Plain, Lengthy}

abbrev pub form_as : Option Kind → Form
form_as None = other_form
form_as (Some Make) = form_of 1
form_as (Some (Plain event)) = (plain 2 event).value
form_as (Some (Lengthy event field)) = (lengthy 6 event 1 field).value
