-- What rows by computation have to see through: `unfolding opened` opens all of it, the definitions of a whole link and a whole ask and of
-- the assembler. A name that is missing here shows in a row's refusal. Assumes nothing.
use Prim.Native.Nat.{ℕ}
use Rattle.words.specs.Folds.{all_of, table}
use Rattle.words.specs.Lists.{list_from, find, first_found, all_found, position, fold, keep, some}
use Rattle.words.specs.Words.{le_word, byte_of, inside}
use Rattle.text.specs.Text.{text_byte, text_of_words, name_at, same_bytes, printable, part_ok}
use Rattle.descriptor.specs.Bytes.{is_base_byte, is_name_byte}
use Rattle.descriptor.specs.Machine.{field_next, is_field_descriptor, method_next, is_method_descriptor}
use Rattle.descriptor.specs.Words.{byte_width, width, begun_words, begun_from, is_method, argument_answer}
use Rattle.class_sheet.specs.ClassSheet.{count_at, methods_at, fields_at, interfaces_at, compilers_at, text_at, content_end, class_word, method_word, field_word, interface_word, compiler_word, is_built_kind}
use Rattle.abi_sheet.specs.AbiSheet.{abi_count_at, abi_slots_at, abi_fields_at, abi_text_at, abi_content_end, abi_class_word, abi_slot_word, abi_field_word}
use Rattle.class_rules.specs.ClassRules.{class_limits, class_fits, compiler_ok, own_numbers, class_numbers, class_lists, class_record, method_flags_ok, method_record, field_record, interface_names, class_records}
use Rattle.apart.specs.Apart.{apart, methods_apart, fields_apart, classes_apart, apart_before}
use Rattle.abi_rules.specs.AbiRules.{abi_limits, abi_fits, abi_class_record, abi_slot_record, abi_field_record, abi_records}
use Rattle.set_rules.specs.SetRules.{method_typed, field_typed, class_descriptors, abi_slot_typed, abi_field_typed, abi_descriptors, set_fits, records_refusal, set_refusal}
use Rattle.linking.specs.Signature.{methods_same, place_name, place_descriptor, by_bytes}
use Rattle.linking.specs.Chain.{own_methods, own_fields, own_interfaces, parent_of, chain_of, chain, is_virtual, is_eligible, eligible, own_target, find_by_target, own_method}
use Rattle.linking.specs.Abi.{abi_named, abi_slots, abi_fields, slot_index, fixed_field_index, vtable_index, slot_at, field_is, fixed_field, class_size, given_words, class_abi, chain_abi, fixed_index, minimum_size, fixer_distance}
use Rattle.linking.specs.Vtable.{own_fixed, find_by_index, read_entry, read_slot, table_entries, parent_entries, entry_is, slot_of, entry_is_other, fixed_of, relayed, extended, inherited_table, put_method, add_method, add_methods, build_methods, method_entries, build_interface_methods, slot_words, is_of, occurs, last_of, comes_from, nearest_first, stays, standing, follows, following, laid_out, distance_of, staying_of}
use Rattle.linking.specs.Packages.{package_of, open_to, is_overridden, overridden_in, reached_with, overridden_along, overridden, topmost, table_has, introducing, taken_slots, put_taken, take_slots, packages_over, build_packages, unfit_for_packages, bad_packages}
use Rattle.linking.specs.Fields.{runtime_end, own_runtime, runtime_words, number_field, number_fields, declares_field, added_fields, raised, built_words, too_many_words, add_static, static_words, add_width, declared_words, stand_from, generated_refusal, moved_index, indices_plus, generated_indices}
use Rattle.linking.specs.Compiler.{holds, owner_state, is_emptied, view_from, native_view, compiler_targets, signature_sources, is_declared, add_named, added_from, added_methods, name_of, flags_of, target_of, members, place_of, class_methods, entry_target, match_target, compiler_entry, compiler_entries, same_signature, has_slot, append_from, append_entry, compiler_table}
use Rattle.linking.specs.Before.{relay_step, relayed_before, rivals, clash}
use Rattle.linking.specs.Set.{write_at, put_indices, new_records, new_text, packed, inserted, overlaid, grown_methods, grown_fields, section_full, grown_end}
use Rattle.linking.specs.Link.{no_class, bad_array, bad_class, ends_below, bad_area, within_slots, new_fields_of, built_table, plan_built, generated_table, generated_methods, plan_generated, plan_array, plan, new_words, new_statics, lists_full, set_short, no_room, linked_area, linked_record, linked_words, finish_link, link_by, link_def}
use Rattle.linking.specs.Counts.{bits_of, bit_count, bits_from, pack_bits, missing_bit, parent_bit, counted_after, missing_short}
use Rattle.linking.specs.Missing.{missing_def, table_by, recounted_along, recounted}
use Rattle.linking.specs.Ask.{walk, own_implementation, implementation, dispatch_entries, asked_area, build_node, bad_ask, ask_by, ask_def}
use Rattle.linking.specs.Whose.{first_declared, declared_by_target, declared_by_index, read_declared, slot_class}
use Rattle.linking.proofs.Assemble.{call, answers, after, indices_of, methods_of, words_of, statics_of, table_of, classes_of}

unfoldable pub opened : ℕ
unfolding all_of table list_from find first_found all_found position fold keep some le_word byte_of inside text_byte text_of_words name_at same_bytes
    printable part_ok is_base_byte is_name_byte field_next is_field_descriptor method_next is_method_descriptor byte_width width begun_words begun_from
    is_method argument_answer count_at methods_at fields_at interfaces_at compilers_at text_at content_end class_word method_word field_word interface_word
    compiler_word abi_count_at abi_slots_at abi_fields_at abi_text_at abi_content_end abi_class_word abi_slot_word abi_field_word class_limits class_fits
    compiler_ok own_numbers class_numbers class_lists class_record method_flags_ok method_record field_record interface_names apart methods_apart fields_apart
    classes_apart apart_before class_records abi_limits abi_fits abi_class_record abi_slot_record abi_field_record abi_records method_typed field_typed
    class_descriptors abi_slot_typed abi_field_typed abi_descriptors set_fits records_refusal set_refusal own_methods own_fields own_interfaces parent_of
    chain_of chain is_built_kind is_virtual is_eligible eligible methods_same by_bytes place_name place_descriptor own_target find_by_target own_method
    abi_named abi_slots abi_fields slot_index fixed_field_index vtable_index slot_at field_is fixed_field class_size given_words class_abi chain_abi
    fixed_index minimum_size own_fixed find_by_index read_entry read_slot table_entries parent_entries entry_is slot_of entry_is_other fixed_of relay_step
    fixer_distance is_of occurs last_of comes_from nearest_first stays standing follows following laid_out rivals clash distance_of staying_of relayed_before
    relayed extended inherited_table put_method add_method add_methods build_methods method_entries build_interface_methods slot_words runtime_end own_runtime
    runtime_words number_field number_fields declares_field added_fields raised built_words too_many_words add_static static_words add_width declared_words
    stand_from generated_refusal moved_index indices_plus generated_indices holds owner_state is_emptied view_from native_view compiler_targets
    signature_sources is_declared add_named added_from added_methods name_of flags_of target_of members place_of class_methods entry_target match_target
    compiler_entry compiler_entries same_signature has_slot append_from append_entry compiler_table put_indices new_records new_text packed inserted overlaid
    grown_methods grown_fields section_full grown_end no_class bad_array bad_class ends_below bad_area within_slots new_fields_of built_table plan_built
    generated_table generated_methods plan_generated plan_array plan new_words new_statics lists_full set_short no_room write_at linked_area linked_record
    linked_words finish_link link_by link_def walk own_implementation implementation dispatch_entries asked_area build_node bad_ask ask_by ask_def
    first_declared declared_by_target declared_by_index read_declared slot_class call answers after indices_of methods_of words_of statics_of table_of
    classes_of package_of open_to is_overridden overridden_in reached_with overridden_along overridden topmost table_has introducing taken_slots put_taken
    take_slots packages_over build_packages unfit_for_packages bad_packages bits_of bit_count bits_from pack_bits missing_bit parent_bit counted_after
    missing_short missing_def table_by recounted_along recounted
opened = 0
