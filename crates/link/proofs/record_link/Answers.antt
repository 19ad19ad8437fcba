-- Two stores, and two more unless the class is generated. Assumes nothing.
use Rattle.link.proofs.StoreLaws.{record_worded, record_generated}
use Rattle.link.proofs.record_link.Goals as goal

pub returns-then-not-generated : goal.returns-then-not-generated
returns-then-not-generated c =
    record_worded _ _ _ _ _ _ c.has_kind-generated.ensures c.put_class_table_place.ensures c.put_class_slot_count.ensures
    c.if-not-generated.true c.put_class_instance_words.ensures c.put_class_static_words.ensures

pub returns-else-not-generated : goal.returns-else-not-generated
returns-else-not-generated c = search record_generated
