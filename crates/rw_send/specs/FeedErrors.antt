-- Why the reading of a log ends early.
use Rattle.rw_follow.specs.declared.follower.SegmentError.{SegmentError}
use Rattle.rw_follow.specs.declared.follower.SegmentError.TheVariants as segment
use Rattle.rw_sender.specs.declared.shipper.FeedFault.{FeedFault}
use Rattle.rw_sender.specs.declared.shipper.FeedFault.TheVariants as feed
use Rattle.rw_types.specs.declared.transfer.ReadFault.TheVariants as read
use Rattle.rw_send.specs.declared.feed_error.FeedError.{FeedError}
use Rattle.rw_send.specs.declared.feed_error.FeedError.TheVariants as error

-- why reading ends
abbrev pub feed_error_of : FeedFault → FeedError
feed_error_of feed.OutOfMemory = error.Failed
feed_error_of (feed.Damaged f) = error.Damaged f
feed_error_of feed.Gone = error.Failed

-- the same of a log that cannot be followed
abbrev pub segment_error_of : SegmentError → FeedError
segment_error_of (segment.Unreadable read.OutOfMemory) = error.Failed
segment_error_of (segment.Unreadable read.Failed) = error.Unreadable
segment_error_of (segment.Missing n) = error.Missing n
