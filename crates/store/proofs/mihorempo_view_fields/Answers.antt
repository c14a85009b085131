use Rattle.store_kinds.proofs.Told.{fields_told}
use Rattle.store.proofs.mihorempo_view_fields.Goals as goal

pub returns : goal.returns
returns c = λ k. fields_told c.fields_shown.ensures (c.view_fields-reply.ensures k)
