use Rattle.base_io.proofs.memory_store.MemoryStoreStore.read.Goals as goal

pub returns-clause-bytes : goal.returns-clause-bytes
returns-clause-bytes c =
    let found = rw (c.as_str.ensures.value, c.deref-2.ensures.value) at c.in-Some-find_file.ensures in
    rw (← c.self.view_is, ← c.in-Some.ensures.value, ← found) (rw c.deref-3.ensures.value at c.copy_from-count.ensures.next)

pub returns-clause-gives : goal.returns-clause-gives
returns-clause-gives c =
    let found = rw (c.as_str.ensures.value, c.deref-2.ensures.value) at c.in-Some-find_file.ensures in
    let count = rw (c.deref-3.ensures.value, c.room_for-room.ensures) at c.copy_from-count.ensures.count in
    rw (← c.self.view_is, ← c.in-Some.ensures.value, ← found, c.copy_from-count.auto.into) count
