use Rattle.bn_farm.proofs.farm_reader.with_schedule.Goals as goal

pub count_elements-count-requires-clause-farm : goal.count_elements-count-requires-clause-farm
count_elements-count-requires-clause-farm c = rw c.as_slice.ensures.value c.requires.farm
