use Rattle.refusing.specs.declared.heap.Refusing.{Refusing}

-- the allocator that grants the other growths
abbrev pub inner_of : {B : Type 0} → Refusing B → B
inner_of heap = heap.inner
